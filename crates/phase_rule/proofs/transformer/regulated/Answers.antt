use Rattle.std.proofs.Common.{ap, Ok}
use mir.Syntax.{w64, w128}
use mir.Val.{SFits}
use Rattle.std.proofs.lemmas.Int.{to_z-of_z}
use Rattle.phase_rule.specs.Shift.{regulated_shift_of}
use Rattle.phase_rule.proofs.transformer.regulated.Goals as goal

pub returns-in-Asym-clause-value : goal.returns-in-Asym-clause-value
unfolding regulated_shift_of
returns-in-Asym-clause-value c =
    let f1 : SFits w128 c.args.added = c.ranges.added in
    let f2 : SFits w64 c.args.angle = c.ranges.angle in
    let e = simp to_z-of_z at c.asymmetrical.ensures.value in
    rw c.in-Asym.is e

pub returns-in-Symm-clause-value : goal.returns-in-Symm-clause-value
unfolding regulated_shift_of
returns-in-Symm-clause-value c =
    let f1 : SFits w128 c.args.added = c.ranges.added in
    let f3 : SFits w64 c.symmetrical.result = record { sfits = c.symmetrical.type_inv } in
    let e = simp to_z-of_z at c.symmetrical.ensures.value in
    rw c.in-Symm.is (simp to_z-of_z (ap Ok e))
