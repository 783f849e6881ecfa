use Rattle.fbcc_core.proofs.Chains.{reductions_joined}
use Rattle.fbcc_core.proofs.documents.read_reductions_document.Goals as goal

pub returns-clause-step : goal.returns-clause-step
returns-clause-step g c = reductions_joined _ _ c.args.crac.now c.as_slice.result.now c.reductions_in.result (rw c.as_slice.ensures.items c.in_ok-bytes.ensures.step) c.reductions_in.ensures.step
