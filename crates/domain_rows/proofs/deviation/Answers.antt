use Rattle.std.proofs.Common.{rules}
use Rattle.domain_rows.proofs.Sizes.{deviation_within}
use Rattle.domain_rows.proofs.deviation.Goals as goal

pub returns-clause-value : goal.returns-clause-value
returns-clause-value c = search rules

pub returns-clause-within : goal.returns-clause-within
returns-clause-within c = deviation_within c.args.factor c.args.coefficient c.difference.result (returns-clause-value c) c.requires.factor_in c.requires.coefficient_in
