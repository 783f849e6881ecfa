use Rattle.std.proofs.lemmas.Result.{err_from_is_err_and}
use Rattle.json_reading.specs.Here.{at_of}
use Rattle.crac_model.proofs.StepLaws.{absent_failed, none_there, id_failed, place_failed, place_there}
use Rattle.crac_model.proofs.entries.contingency_for.Goals as goal

pub returns-in_err-absent : goal.returns-in_err-absent
returns-in_err-absent c =
    let p = err_from_is_err_and c.from_residual.result c.from_residual.ensures.1 in
    rw (p.1, p.2, c.if-preventive.true) (absent_failed c.args.contingencies.now (at_of c.args.at.now) c.in_err-absent.field-0.0 c.in_err-absent.ensures)

pub returns-then-preventive : goal.returns-then-preventive
returns-then-preventive c = rw c.if-preventive.true (none_there c.args.contingencies.now (at_of c.args.at.now) c.in_ok-absent.field-0 c.in_ok-absent.ensures)

pub returns-in_err-id : goal.returns-in_err-id
returns-in_err-id c =
    let p = err_from_is_err_and c.from_residual-in_err-id.result c.from_residual-in_err-id.ensures.1 in
    rw (p.1, p.2, c.if-preventive.false) (id_failed c.args.contingencies.now (at_of c.args.at.now) c.in_err-id.field-0.0 c.in_err-id.ensures)

pub returns-in_err-place : goal.returns-in_err-place
returns-in_err-place c =
    let p = err_from_is_err_and c.from_residual-in_err-place.result c.from_residual-in_err-place.ensures.1 in
    rw (p.1, p.2, c.if-preventive.false)
    (place_failed c.args.contingencies.now (at_of c.args.at.now) c.in_ok-id.id.now c.in_err-place.field-0.0 c.in_ok-id.ensures (rw c.get-found.ensures at c.in_err-place.ensures))

pub returns : goal.returns
returns c =
    rw c.if-preventive.false
    (place_there c.args.contingencies.now (at_of c.args.at.now) c.in_ok-id.id.now c.in_ok-place.place c.in_ok-id.ensures (rw c.get-found.ensures at c.in_ok-place.ensures))
