use Rattle.std.proofs.lemmas.Result.{err_from_is_err_and}
use Rattle.fbcc_core.proofs.Chains.{case_joined, case_crac_refused, case_settings_refused, case_keys_refused}
use Rattle.fbcc_core.proofs.selftest_command.understand.Goals as goal

pub returns-in_err-crac-clause-steps : goal.returns-in_err-crac-clause-steps
returns-in_err-crac-clause-steps c =
    let p = err_from_is_err_and c.from_residual-in_err-crac.result c.from_residual-in_err-crac.ensures.1 in
    rw (p.1, p.2) (case_crac_refused c.args.case.now c.in_ok-grid.grid c.in_err-crac.field-0.0 c.in_ok-grid.ensures c.in_err-crac.ensures.step)

pub returns-in_err-settings-clause-steps : goal.returns-in_err-settings-clause-steps
returns-in_err-settings-clause-steps c =
    let p = err_from_is_err_and c.from_residual-in_err-settings.result c.from_residual-in_err-settings.ensures.1 in
    rw (p.1, p.2) (case_settings_refused c.args.case.now c.in_ok-grid.grid c.in_ok-crac.crac c.in_err-settings.field-0.0 c.in_ok-grid.ensures c.in_ok-crac.ensures.step c.in_err-settings.ensures.step)

pub returns-in_err-keys-clause-steps : goal.returns-in_err-keys-clause-steps
returns-in_err-keys-clause-steps c =
    let p = err_from_is_err_and c.from_residual-in_err-keys.result c.from_residual-in_err-keys.ensures.1 in
    rw (p.1, p.2) (case_keys_refused c.args.case.now c.in_ok-grid.grid c.in_ok-crac.crac c.in_ok-settings.settings c.in_err-keys.field-0.0 c.in_ok-grid.ensures c.in_ok-crac.ensures.step c.in_ok-settings.ensures.step c.in_err-keys.ensures.step)

pub returns-clause-steps : goal.returns-clause-steps
returns-clause-steps c = case_joined c.args.case.now _ c.new.ensures.empty c.in_ok-grid.ensures c.in_ok-crac.ensures.step c.in_ok-settings.ensures.step c.in_ok-keys.ensures.step
