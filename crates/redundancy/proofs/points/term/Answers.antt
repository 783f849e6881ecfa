use Rattle.redundancy.proofs.Slacks.{term_small}
use Rattle.redundancy.proofs.points.term.Goals as goal

pub returns-clause-small : goal.returns-clause-small
returns-clause-small c = term_small c.args.a c.args.x c.from.result c.from-2.result c.requires.a_small c.requires.x_small c.from.ensures c.from-2.ensures
