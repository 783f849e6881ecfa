use Rattle.std.proofs.Common.{pos, get_or, rules}
use mir.Syntax.{w128}
use mir.Val.{SFits}
use Rattle.std.proofs.lemmas.Int.{to_z-of_z}
use Rattle.glsk_keys.proofs.ScalingLaws.{fits64, product_small}
use Rattle.glsk_keys.proofs.scaling.weights.Goals as goal

pub scaled_weight-requires : goal.scaled_weight-requires
scaled_weight-requires c =
    let f : SFits w128 c.args.power = c.ranges.power in
    let g : SFits w128 (get_or c.args.values.now c.loop-place.place (pos 0)) = search rules in
    let p = product_small c.args.power c.args.values.now c.loop-place.place c.requires.some c.requires.weights.each c.loop-place-test.true c.requires.small in
    simp to_z-of_z (fits64 _ p.0 p.1)
