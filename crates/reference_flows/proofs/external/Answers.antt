use Rattle.std.proofs.Common.{rules}
use Rattle.reference_flows.proofs.Held.{holds_external}
use Rattle.reference_flows.proofs.external.Goals as goal

pub returns-clause-value : goal.returns-clause-value
returns-clause-value c = search rules

pub returns-clause-holds : goal.returns-clause-holds
returns-clause-holds c = holds_external c.args.factors.now c.args.positions.now c.args.core.now _ (returns-clause-value c)
