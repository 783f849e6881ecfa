use Rattle.fbcc_core.proofs.Chains.{grid_joined}
use Rattle.fbcc_core.proofs.documents.read_grid_document.Goals as goal

pub returns-clause-step : goal.returns-clause-step
returns-clause-step g c = grid_joined _ _ c.as_slice.result.now c.grid_in.result (rw c.as_slice.ensures.items c.in_ok-bytes.ensures.step) c.grid_in.ensures
