use Rattle.std.proofs.lemmas.Result.{err_from_is_err_and}
use Rattle.fbcc_core.proofs.Chains.{selftest_joined, selftest_refused}
use Rattle.fbcc_core.proofs.selftest_command.selftest_work.Goals as goal

pub returns-in_err-inputs : goal.returns-in_err-inputs
returns-in_err-inputs g c =
    let p = err_from_is_err_and c.from_residual.result c.from_residual.ensures.1 in
    rw (p.1, p.2) (selftest_refused _ _ c.in_err-inputs.field-0.0 c.in_err-inputs.ensures.steps)

pub returns : goal.returns
returns g c = selftest_joined _ _ c.in_ok-inputs.inputs c.test.result c.in_ok-inputs.ensures.steps c.test.ensures
