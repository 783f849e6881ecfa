use Rattle.std.proofs.Common.{◌-ℤ◌, FitsSigned, w64, rules}
use Rattle.std.specs.Int.{w128}
use Rattle.std.proofs.lemmas.Int.{to_z-of_z}
use Rattle.domain_rows.proofs.Reaches.{within_wide, no_number, same_number}
use Rattle.domain_rows.proofs.end_deviation.Goals as goal

pub returns-in_err-difference : goal.returns-in_err-difference
returns-in_err-difference g c =
    let end_fits : FitsSigned w128 c.args.end = c.ranges.end in
    let coefficient_fits : FitsSigned w64 c.args.coefficient = c.ranges.coefficient in
    let past = simp to_z-of_z at c.in_err-difference.ensures in
    no_number g.T.Scalar.whole (g.T.Scalar.whole g.T.Scalar.LOW) (g.T.Scalar.whole g.T.Scalar.HIGH) c.from_residual.result (c.args.end -ℤ c.args.coefficient) c.from_residual.ensures
    (λ fits. past (within_wide _ _ (g.T.Scalar.whole g.T.Scalar.LOW) (g.T.Scalar.whole g.T.Scalar.HIGH) (c.args.end -ℤ c.args.coefficient) c.fits_wide.ensures.low c.fits_wide.ensures.high fits))

pub returns : goal.returns
returns g c =
    let end_fits : FitsSigned w128 c.args.end = c.ranges.end in
    let coefficient_fits : FitsSigned w64 c.args.coefficient = c.ranges.coefficient in
    let difference_fits : FitsSigned w128 c.in_ok-difference.difference = search rules in
    let exact = simp to_z-of_z at c.in_ok-difference.ensures in
    let number = simp to_z-of_z at c.from_wide.ensures in
    same_number g.T.Scalar.whole (g.T.Scalar.whole g.T.Scalar.LOW) (g.T.Scalar.whole g.T.Scalar.HIGH) c.from_wide.result c.in_ok-difference.difference (c.args.end -ℤ c.args.coefficient) exact.0 number
