use Rattle.std.proofs.Common.{sym, ◌∙◌}
use Rattle.std.proofs.lemmas.Result.{err_from_is_err_and}
use Rattle.json_reading.specs.Here.{at_of}
use Rattle.crac_model.specs.Naming.{grid_of}
use Rattle.crac_model.proofs.StepLaws.{branch_failed, coupler_refused, branch_there}
use Rattle.crac_model.proofs.entries.monitored_of.Goals as goal

pub returns-in_err-found-2 : goal.returns-in_err-found-2
returns-in_err-found-2 c =
    let p = err_from_is_err_and c.from_residual-in_err-found-2.result c.from_residual-in_err-found-2.ensures.1 in
    rw (p.1, p.2)
    (branch_failed (grid_of c.args.grid.now) (at_of c.args.at.now) c.in_ok-name.name.now c.in_err-found-2.field-0.0 c.in_ok-name.ensures (rw c.in_ok-found.ensures at c.in_err-found-2.ensures))

pub returns-then-is_coupler_at : goal.returns-then-is_coupler_at
returns-then-is_coupler_at c =
    coupler_refused (grid_of c.args.grid.now) (at_of c.args.at.now) c.in_ok-name.name.now c.in_ok-found-2.found c.fault_in.result c.in_ok-name.ensures (rw c.in_ok-found.ensures at c.in_ok-found-2.ensures)
    (sym c.is_coupler_at.ensures ∙ c.if-is_coupler_at.true) c.fault_in.ensures

pub returns : goal.returns
returns c =
    branch_there (grid_of c.args.grid.now) (at_of c.args.at.now) c.in_ok-name.name.now c.in_ok-found-2.found c.in_ok-name.ensures (rw c.in_ok-found.ensures at c.in_ok-found-2.ensures)
    (sym c.is_coupler_at.ensures ∙ c.if-is_coupler_at.false)
