use Rattle.ram_formulas.proofs.MarginProofs.{share_within}
use Rattle.ram_formulas.proofs.share.Goals as goal

pub returns-clause-within : goal.returns-clause-within
returns-clause-within c = share_within c.args.ramr c.args.limit c.from.result c.from-2.result c.requires.share_in c.requires.limit_in c.ranges.limit c.from.ensures c.from-2.ensures
