use Rattle.std.proofs.Common.{◌≡◌, subst, FitsSigned, w64, rules}
use Rattle.std.proofs.lemmas.Int.{to_z-of_z}
use Rattle.fb_span.specs.Exact.{IsFrom}
use Rattle.zonal_factors.specs.SharedSpans.{sums_of}
use Rattle.zonal_factors.proofs.Fits.{by_none, product_is, total_past, weight_past, step_done}
use Rattle.zonal_factors.proofs.shares.WeightedSum.add.Goals as goal

pub returns-in_err-share : goal.returns-in_err-share
returns-in_err-share g c =
    let whole = g.T.Scalar.whole in
    let low = whole g.T.Scalar.LOW in
    let high = whole g.T.Scalar.HIGH in
    let fits : FitsSigned w64 c.args.share = search rules in
    by_none _ _ c.from_residual-in_err-share.result c.from_residual-in_err-share.ensures
    (λ step. subst (λ z. IsFrom low high z → ⊥) (to_z-of_z w64 c.args.share fits) c.in_err-share.ensures step.part_fits.share)

pub returns-in_err-total : goal.returns-in_err-total
returns-in_err-total g c =
    let whole = g.T.Scalar.whole in
    let low = whole g.T.Scalar.LOW in
    let high = whole g.T.Scalar.HIGH in
    let ends = c.in_ok-factor.ensures in
    let fits : FitsSigned w64 c.args.share = search rules in
    let share = subst (λ z. (whole c.in_ok-share.share ≡ z) × IsFrom low high z) (to_z-of_z w64 c.args.share fits) c.in_ok-share.ensures in
    let sums = sums_of whole c.args.self.total c.args.self.weight in
    let product = product_is low high (c.args.part, c.args.share) _ _ _ (whole c.in_ok-product.product.0) (whole c.in_ok-product.product.1)
    (record { low_end = (ends.0, ends.2); high_end = (ends.1, ends.3); share = share; some = c.requires; ordered = c.sound.ensures }) c.in_ok-product.ensures.exact in
    by_none _ _ c.from_residual-in_err-total.result c.from_residual-in_err-total.ensures
    (total_past low high sums (c.args.part, c.args.share) (whole c.in_ok-product.product.0) (whole c.in_ok-product.product.1) product c.in_err-total.ensures.exact)

pub returns-in_err-weight : goal.returns-in_err-weight
returns-in_err-weight g c =
    let whole = g.T.Scalar.whole in
    let low = whole g.T.Scalar.LOW in
    let high = whole g.T.Scalar.HIGH in
    let sums = sums_of whole c.args.self.total c.args.self.weight in
    let fits : FitsSigned w64 c.args.share = search rules in
    let share = subst (λ z. (whole c.in_ok-share.share ≡ z) × IsFrom low high z) (to_z-of_z w64 c.args.share fits) c.in_ok-share.ensures in
    by_none _ _ c.from_residual-in_err-weight.result c.from_residual-in_err-weight.ensures
    (weight_past low high sums (c.args.part, c.args.share) (whole c.in_ok-share.share) share.0 c.in_err-weight.ensures)

pub returns : goal.returns
returns g c =
    let whole = g.T.Scalar.whole in
    let low = whole g.T.Scalar.LOW in
    let high = whole g.T.Scalar.HIGH in
    let ends = c.in_ok-factor.ensures in
    let fits : FitsSigned w64 c.args.share = search rules in
    let share = subst (λ z. (whole c.in_ok-share.share ≡ z) × IsFrom low high z) (to_z-of_z w64 c.args.share fits) c.in_ok-share.ensures in
    let sums = sums_of whole c.args.self.total c.args.self.weight in
    let product = product_is low high (c.args.part, c.args.share) _ _ _ (whole c.in_ok-product.product.0) (whole c.in_ok-product.product.1)
    (record { low_end = (ends.0, ends.2); high_end = (ends.1, ends.3); share = share; some = c.requires; ordered = c.sound.ensures }) c.in_ok-product.ensures.exact in
    step_done low high sums (c.args.part, c.args.share) (whole c.in_ok-product.product.0) (whole c.in_ok-product.product.1) (whole c.in_ok-share.share) (whole c.in_ok-total.total.0) (whole c.in_ok-total.total.1) (whole c.in_ok-weight.weight)
    product share.0 c.in_ok-total.ensures.exact c.in_ok-weight.ensures
