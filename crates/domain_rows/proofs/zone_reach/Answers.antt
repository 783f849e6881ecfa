use Rattle.std.proofs.Common.{ℤ, subst, FitsSigned, w64}
use Rattle.std.proofs.lemmas.Int.{to_z-of_z}
use Rattle.domain_rows.specs.FittingReaches.{IsZoneReach}
use Rattle.domain_rows.proofs.Reaches.{reach_is, no_zone_reach}
use Rattle.domain_rows.proofs.zone_reach.Goals as goal

pub returns-in_err-deviation : goal.returns-in_err-deviation
returns-in_err-deviation g c =
    let whole = g.T.Scalar.whole in
    let coefficient_fits : FitsSigned w64 c.args.coefficient = c.ranges.coefficient in
    subst (λ (a : ℤ). IsZoneReach whole (whole g.T.Scalar.LOW) (whole g.T.Scalar.HIGH) c.from_residual.result ((c.args.factor, a), c.args.bounds)) (to_z-of_z w64 c.args.coefficient coefficient_fits)
    (no_zone_reach whole (whole g.T.Scalar.LOW) (whole g.T.Scalar.HIGH) ((c.args.factor, _), c.args.bounds) c.from_residual.result c.from_residual.ensures
    (λ fits. c.in_err-deviation.ensures (fits.differences.low, fits.differences.high)))

pub returns-in_err-positions : goal.returns-in_err-positions
returns-in_err-positions g c =
    no_zone_reach g.T.Scalar.whole (g.T.Scalar.whole g.T.Scalar.LOW) (g.T.Scalar.whole g.T.Scalar.HIGH) ((c.args.factor, c.args.coefficient), c.args.bounds) c.from_residual-in_err-positions.result c.from_residual-in_err-positions.ensures
    (λ fits. c.in_err-positions.ensures (fits.bounds.low, fits.bounds.high))

pub returns : goal.returns
returns g c =
    let whole = g.T.Scalar.whole in
    let coefficient_fits : FitsSigned w64 c.args.coefficient = c.ranges.coefficient in
    let d = c.in_ok-deviation.ensures in
    let b = c.in_ok-positions.ensures in
    subst (λ (a : ℤ). IsZoneReach whole (whole g.T.Scalar.LOW) (whole g.T.Scalar.HIGH) c.mul.result ((c.args.factor, a), c.args.bounds)) (to_z-of_z w64 c.args.coefficient coefficient_fits)
    (reach_is whole (whole g.T.Scalar.LOW) (whole g.T.Scalar.HIGH) ((c.args.factor, _), c.args.bounds) _ _ c.mul.result
    (record { low_end = d.0; high_end = d.1; lower = b.0; upper = b.1; differences = record { low = d.2; high = d.3 }; bounds = record { low = b.2; high = b.3 } })
    c.mul.ensures.exact)
