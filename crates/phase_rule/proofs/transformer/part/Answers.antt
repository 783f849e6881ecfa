use Rattle.phase_rule.proofs.Numbers.{part_within}
use Rattle.phase_rule.proofs.transformer.part.Goals as goal

pub returns-clause-within : goal.returns-clause-within
returns-clause-within c = part_within c.args.added c.args.factor c.requires.added c.requires.factor
