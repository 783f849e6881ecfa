use Rattle.std.proofs.Common.{rules}
use Rattle.reference_flows.proofs.Held.{holds_without_any}
use Rattle.reference_flows.proofs.without_any.Goals as goal

pub returns-clause-value : goal.returns-clause-value
returns-clause-value c = search rules

pub returns-clause-holds : goal.returns-clause-holds
returns-clause-holds c = holds_without_any c.args.reference c.args.factors.now c.args.positions.now _ (returns-clause-value c)
