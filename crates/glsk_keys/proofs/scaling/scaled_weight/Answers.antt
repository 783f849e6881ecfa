use Rattle.std.proofs.Common.{◌*ℤ◌}
use mir.Syntax.{w64, w128}
use mir.Val.{SFits}
use Rattle.std.proofs.lemmas.Int.{to_z-of_z}
use Rattle.glsk_keys.proofs.ScalingLaws.{product_is}
use Rattle.glsk_keys.proofs.scaling.scaled_weight.Goals as goal

pub overflow_mul-result : goal.overflow_mul-result
overflow_mul-result c =
    let f : SFits w128 c.args.power = c.ranges.power in
    let g : SFits w128 c.args.weight = c.ranges.weight in
    simp to_z-of_z (product_is _ _ f g c.requires)

pub overflow_cast-result : goal.overflow_cast-result
overflow_cast-result c =
    let f : SFits w128 c.args.power = c.ranges.power in
    let g : SFits w128 c.args.weight = c.ranges.weight in
    let h : SFits w128 (c.args.power *ℤ c.args.weight) = product_is _ _ f g c.requires in
    simp to_z-of_z c.requires

pub returns : goal.returns
returns c =
    let f : SFits w128 c.args.power = c.ranges.power in
    let g : SFits w128 c.args.weight = c.ranges.weight in
    let h : SFits w128 (c.args.power *ℤ c.args.weight) = product_is _ _ f g c.requires in
    let k : SFits w64 (c.args.power *ℤ c.args.weight) = c.requires in
    simp to_z-of_z
