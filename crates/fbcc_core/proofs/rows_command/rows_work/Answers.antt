use Rattle.fbcc_core.proofs.Chains.{rows_joined}
use Rattle.fbcc_core.proofs.rows_command.rows_work.Goals as goal

pub returns : goal.returns
returns g c = rows_joined _ _ c.as_slice.result.now c.in_ok-document.document c.judge.result (rw c.as_slice.ensures.items c.in_ok-bytes.ensures.step) c.in_ok-document.ensures.step c.judge.ensures
