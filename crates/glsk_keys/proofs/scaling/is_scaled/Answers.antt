use Rattle.std.proofs.Common.{◌^◌, ◌*◌, pos, ◌*ℤ◌, lit<}
use mir.Syntax.{w128}
use mir.Val.{SFits}
use Rattle.std.proofs.lemmas.Int.{to_z-of_z}
use Rattle.whole_laws.specs.SumLaws.{within_times}
use Rattle.glsk_keys.proofs.ScalingLaws.{fits, at_most_test}
use Rattle.glsk_keys.proofs.scaling.is_scaled.Goals as goal

pub returns : goal.returns
returns c =
    let f : SFits w128 c.args.power = c.ranges.power in
    let g : SFits w128 c.args.total = c.ranges.total in
    let p = within_times (10 ^ 12) (10 ^ 12) c.args.power c.args.total c.requires.power c.requires.total in
    let h : SFits w128 (c.args.power *ℤ c.args.total) = fits (10 ^ 12 * 10 ^ 12) _ p (lit< tt) in
    simp to_z-of_z (at_most_test (c.args.power *ℤ c.args.total) (pos (10 ^ 12)))
