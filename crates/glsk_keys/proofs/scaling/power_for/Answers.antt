use Rattle.std.proofs.Common.{◌≡◌, ◌-◌, ◌^◌, ◌≤◌, ◌<◌, ◌*ℤ◌, ◌<ℤ◌, pos, false, refl, arith, sym, ◌∙◌, to_z, subst}
use Rattle.glsk_keys.specs.ScaleFound.{power_up_to, scale_for}
use Rattle.glsk_keys.specs.Scales.{IsScale}
use mir.Syntax.{w128}
use mir.Val.{SFits}
use Rattle.std.proofs.lemmas.Int.{to_z-of_z}
use Rattle.std.proofs.Math.Nat.{pow-le-pow_right}
use Rattle.glsk_keys.proofs.ScalingLaws.{power_step, power_found, power_last, power_within, divided, over_test}
use Rattle.glsk_keys.proofs.scaling.power_for.Goals as goal

pub loop-step-init : goal.loop-step-init
loop-step-init c = (refl, refl)

pub is_scaled-requires-clause-power : goal.is_scaled-requires-clause-power
is_scaled-requires-clause-power c = power_within c.loop-step.step _ c.loop-step.invariant.0

pub returns-then-is_scaled-clause-power : goal.returns-then-is_scaled-clause-power
returns-then-is_scaled-clause-power c =
    let f : SFits w128 c.args.total = c.ranges.total in
    let t = simp to_z-of_z at (c.if-is_scaled.ensures.0 refl) in
    power_found c.loop-step.step _ c.args.total c.loop-step-test.true t c.loop-step.invariant.0 (simp to_z-of_z at c.loop-step.invariant.1)

pub returns-then-is_scaled-clause-scale : goal.returns-then-is_scaled-clause-scale
returns-then-is_scaled-clause-scale c = subst (IsScale c.args.total) (sym (returns-then-is_scaled-clause-power c)) (scale_for c.args.total c.requires.some c.requires.few)

pub loop-step-preserved : goal.loop-step-preserved
loop-step-preserved c =
    let f : SFits w128 c.args.total = c.ranges.total in
    let i = c.loop-step.step in
    let p = c.loop-step.invariant.0 in
    let o : pos (10 ^ 12) <ℤ (to_z w128 c.loop-step.power-bits *ℤ c.args.total) = over_test _ _ false refl (simp to_z-of_z at c.if-is_scaled.ensures) in
    let s = power_step i _ c.args.total c.loop-step-test.true o p (simp to_z-of_z at c.loop-step.invariant.1) in
    let t : 0 < 10 = omega arith in
    let n : 12 - i ≤ 12 = omega arith in
    let l : 10 ^ (12 - i) ≤ 10 ^ 12 = pow-le-pow_right t n in
    (divided _ _ p l ∙ s.0, simp to_z-of_z s.1)

pub returns-clause-power : goal.returns-clause-power
returns-clause-power c =
    let f : SFits w128 c.args.total = c.ranges.total in
    let e : c.loop-step.step ≡ 12 = omega arith in
    let p = subst (λ i. to_z w128 c.loop-step.power-bits ≡ pos (10 ^ (12 - i))) e c.loop-step.invariant.0 in
    let q : power_up_to (12 - c.loop-step.step) c.args.total ≡ power_up_to 12 c.args.total = simp to_z-of_z at c.loop-step.invariant.1 in
    let s = subst (λ i. power_up_to (12 - i) c.args.total ≡ power_up_to 12 c.args.total) e q in
    power_last _ c.args.total p s

pub returns-clause-scale : goal.returns-clause-scale
returns-clause-scale c = subst (IsScale c.args.total) (sym (returns-clause-power c)) (scale_for c.args.total c.requires.some c.requires.few)
