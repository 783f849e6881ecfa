use Rattle.std.proofs.lemmas.Result.{err_from_is_err_and}
use Rattle.fbcc_core.proofs.Chains.{case_inputs_joined, case_refused}
use Rattle.fbcc_core.proofs.selftest_command.inputs_of.Goals as goal

pub returns-in_err-documents-clause-steps : goal.returns-in_err-documents-clause-steps
returns-in_err-documents-clause-steps c =
    let p = err_from_is_err_and c.from_residual.result c.from_residual.ensures.1 in
    rw (p.1, p.2) (case_refused _ _ c.in-Ok.case c.in_err-documents.field-0.0 c.in-Ok.ensures c.in_err-documents.ensures.steps)

pub returns-clause-steps : goal.returns-clause-steps
returns-clause-steps c = case_inputs_joined _ _ c.in-Ok.case c.in_ok-documents.documents c.put_together.result c.in-Ok.ensures c.in_ok-documents.ensures.steps c.put_together.ensures.step
