use Rattle.std.proofs.Common.{rules}
use Rattle.domain_rows.proofs.Inclusions.{brackets_at}
use Rattle.domain_rows.proofs.bracket.Goals as goal

pub returns-clause-coefficients : goal.returns-clause-coefficients
returns-clause-coefficients c = search rules

pub returns-clause-inner : goal.returns-clause-inner
returns-clause-inner c = search rules

pub returns-clause-outer : goal.returns-clause-outer
returns-clause-outer c = search rules

pub returns-clause-brackets : goal.returns-clause-brackets
returns-clause-brackets c = brackets_at c.args.core_factors.now c.args.ram c.args.bounds.now _ _ _ c.requires.as_many_bounds (returns-clause-coefficients c) (returns-clause-inner c) (returns-clause-outer c)
