use Rattle.std.proofs.Common.{◌∙◌, inl, inr, ap}
use mir.Syntax.{w32, w64, w128}
use mir.Val.{SFits}
use Rattle.std.proofs.lemmas.Int.{to_z-of_z}
use Rattle.phase_rule.specs.Shift.{regulated_shift_of}
use Rattle.phase_rule.proofs.Following.{without_step, without_tap, with_both, fault_exactly}
use Rattle.phase_rule.proofs.shift.Goals as goal

pub returns-then-step-eq0-clause-denominator : goal.returns-then-step-eq0-clause-denominator
returns-then-step-eq0-clause-denominator c =
    fault_exactly c.args.step c.args.angle c.args.tap c.args.kind _ (elim c.then-step-eq0.either [
      | inl h ↦ without_step c.args.step c.args.angle c.args.tap c.args.kind c.ranges.step h
      | inr h ↦ without_tap c.args.step c.args.angle c.args.tap c.args.kind c.ranges.tap h.1
    ])

pub returns-clause-value : goal.returns-clause-value
returns-clause-value c =
    let f1 : SFits w64 c.args.step = c.ranges.step in
    let f2 : SFits w32 c.args.tap = c.ranges.tap in
    let f3 : SFits w64 c.args.angle = c.ranges.angle in
    let f4 : SFits w128 c.voltage.result = record { sfits = c.voltage.type_inv } in
    let added = simp to_z-of_z at c.voltage.ensures.value in
    (simp to_z-of_z at c.regulated.ensures.value) ∙ ap (λ v. regulated_shift_of v c.args.angle c.args.kind) added
    ∙ with_both c.args.step c.args.angle c.args.tap c.args.kind f1 f2 c.if-step-eq0.false c.if-tap-eq0.false

pub returns-clause-denominator : goal.returns-clause-denominator
returns-clause-denominator c = fault_exactly c.args.step c.args.angle c.args.tap c.args.kind c.regulated.result (returns-clause-value c)
