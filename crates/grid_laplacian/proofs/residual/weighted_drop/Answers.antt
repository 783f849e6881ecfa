use Rattle.std.proofs.Common.{◌-ℤ◌, ◌*ℤ◌, FitsSigned, arith, refl}
use Rattle.std.proofs.lemmas.Int.{ints, to_z-of_z}
use mir.Syntax.{w128}
use Rattle.grid_laplacian.proofs.PartialSums.{difference_fits, drop_fits}
use Rattle.grid_laplacian.proofs.residual.weighted_drop.Goals as goal

pub overflow_sub-result : goal.overflow_sub-result
overflow_sub-result c =
    let here = c.ranges.here in
    let there = c.ranges.there in
    simp to_z-of_z (difference_fits c.args.b c.args.here c.args.there c.requires.some c.requires.here_small c.requires.there_small)

pub overflow_mul-result : goal.overflow_mul-result
overflow_mul-result c =
    let here = c.ranges.here in
    let there = c.ranges.there in
    let apart = difference_fits c.args.b c.args.here c.args.there c.requires.some c.requires.here_small c.requires.there_small in
    let same = c.from.ensures in
    let b_fits : FitsSigned w128 c.from.result = omega (arith, ints) in
    simp to_z-of_z (rw same (drop_fits c.args.b c.args.here c.args.there c.requires.here_small c.requires.there_small))

pub returns : goal.returns
returns c =
    let here = c.ranges.here in
    let there = c.ranges.there in
    let apart = difference_fits c.args.b c.args.here c.args.there c.requires.some c.requires.here_small c.requires.there_small in
    let same = c.from.ensures in
    let b_fits : FitsSigned w128 c.from.result = omega (arith, ints) in
    let whole : FitsSigned w128 (c.from.result *ℤ (c.args.here -ℤ c.args.there)) = rw same (drop_fits c.args.b c.args.here c.args.there c.requires.here_small c.requires.there_small) in
    simp to_z-of_z (rw same refl)
