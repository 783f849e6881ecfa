use Rattle.std.proofs.Common.{◌≡◌, ◌^◌, pos, ◌*ℤ◌, ◌≤ℤ◌, refl, ap, subst, ◌∙◌}
use mir.Syntax.{w64, w128}
use mir.Val.{SFits}
use Rattle.std.proofs.lemmas.Int.{to_z-of_z}
use Rattle.glsk_keys.specs.Measures.{total_of}
use Rattle.glsk_keys.specs.Scales.{IsScale}
use Rattle.glsk_keys.specs.Scaling.{power_for, weights_from, block_with}
use Rattle.glsk_keys.proofs.ScalingLaws.{scale_some, scale_fits}
use Rattle.glsk_keys.proofs.scaling.block_with.Goals as goal

power_is : (c : goal.After-power_for-power) → SFits w128 c.power_for-power.result
power_is c = record { sfits = c.power_for-power.type_inv }

scale_is : (c : goal.After-power_for-power) → IsScale c.args.total c.power_for-power.result
scale_is c = let f : SFits w128 c.args.total = c.ranges.total in simp to_z-of_z at c.power_for-power.ensures.scale

pub weights-requires-clause-some : goal.weights-requires-clause-some
weights-requires-clause-some c = let f = power_is c in simp to_z-of_z (scale_some _ _ (scale_is c))

pub weights-requires-clause-small : goal.weights-requires-clause-small
weights-requires-clause-small c =
    let f = power_is c in
    simp to_z-of_z (subst (λ t. (c.power_for-power.result *ℤ t) ≤ℤ pos (10 ^ 12)) c.requires.total (scale_is c).fits)

pub scaled_weight-requires : goal.scaled_weight-requires
scaled_weight-requires c =
    let f : SFits w128 c.power_for-power.result = record { sfits = c.power_for-power.type_inv } in
    let g : SFits w128 c.args.total = c.ranges.total in
    let s : IsScale c.args.total c.power_for-power.result = simp to_z-of_z at c.power_for-power.ensures.scale in
    simp to_z-of_z (scale_fits _ _ c.requires.positive s)

pub returns-clause-block : goal.returns-clause-block
unfolding block_with
returns-clause-block c =
    let f : SFits w128 c.power_for-power.result = record { sfits = c.power_for-power.type_inv } in
    let g : SFits w128 c.args.total = c.ranges.total in
    let h : SFits w64 c.args.share = c.ranges.share in
    let k : SFits w64 c.scaled_weight.result = record { sfits = c.scaled_weight.type_inv } in
    let p : c.power_for-power.result ≡ power_for (total_of c.args.values.now) = simp to_z-of_z at c.power_for-power.ensures.power ∙ ap power_for c.requires.total in
    let t : c.scaled_weight.result ≡ power_for (total_of c.args.values.now) *ℤ total_of c.args.values.now = simp to_z-of_z at c.scaled_weight.ensures ∙ (ap (λ z. z *ℤ c.args.total) p ∙ ap (λ z. power_for (total_of c.args.values.now) *ℤ z) c.requires.total) in
    let w : c.from_vec.result ≡ weights_from 0 (power_for (total_of c.args.values.now)) c.args.values.now = c.from_vec.ensures.same ∙ (simp to_z-of_z at c.in_ok-weights.ensures ∙ ap (λ z. weights_from 0 z c.args.values.now) p) in
    simp to_z-of_z (rw (t, w) refl)

pub returns-clause-share : goal.returns-clause-share
returns-clause-share c = let h : SFits w64 c.args.share = c.ranges.share in simp to_z-of_z
