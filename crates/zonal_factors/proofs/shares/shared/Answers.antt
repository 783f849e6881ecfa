use Rattle.std.proofs.Common.{pos, get_or, sym, subst, ◌∙◌, FitsSigned, w64, rules}
use Rattle.std.specs.Prelude.{◌<ℤ◌, ◌≤ℤ◌}
use Rattle.std.specs.List.{zip}
use Rattle.std.proofs.lemmas.Int.{to_z-of_z}
use Rattle.zonal_factors.specs.SharedSpans.{sums_of}
use Rattle.zonal_factors.proofs.Fits.{no_shared, step_past, place_at, one_more, parts_end, all_summed, shared_is, zip_right, zip_shares}
use Rattle.zonal_factors.proofs.shares.shared.Goals as goal

pub returns-in_err-sum-2 : goal.returns-in_err-sum-2
returns-in_err-sum-2 g c =
    let whole = g.T.Scalar.whole in
    let low = whole g.T.Scalar.LOW in
    let high = whole g.T.Scalar.HIGH in
    let spans = c.args.parts.now in
    let shares = c.args.shares.now in
    let place = c.loop-place.place in
    let span = c.index-parts-place.result in
    let fits : FitsSigned w64 (get_or shares place (pos 0)) = search rules in
    let here = place_at spans shares place span _ c.loop-place-test.true c.requires.lengths c.index-parts-place.is (to_z-of_z w64 (get_or shares place (pos 0)) fits) in
    no_shared whole low high (zip spans shares) c.from_residual-in_err-sum-2.result c.from_residual-in_err-sum-2.ensures
    (step_past low high (zip spans shares) place (span, pos 0) _ (sums_of whole c.loop-place.sum.total c.loop-place.sum.weight) here (zip_right (λ b. pos 0 ≤ℤ b) spans shares c.requires.shares) c.loop-place.invariant c.in_err-sum-2.ensures)

pub loop-place-preserved : goal.loop-place-preserved
loop-place-preserved g c =
    let whole = g.T.Scalar.whole in
    let low = whole g.T.Scalar.LOW in
    let high = whole g.T.Scalar.HIGH in
    let spans = c.args.parts.now in
    let shares = c.args.shares.now in
    let place = c.loop-place.place in
    let span = c.index-parts-place.result in
    let fits : FitsSigned w64 (get_or shares place (pos 0)) = search rules in
    let here = place_at spans shares place span _ c.loop-place-test.true c.requires.lengths c.index-parts-place.is (to_z-of_z w64 (get_or shares place (pos 0)) fits) in
    one_more low high (zip spans shares) place (span, pos 0) _ (sums_of whole c.loop-place.sum.total c.loop-place.sum.weight) (sums_of whole c.in_ok-sum-2.sum.total c.in_ok-sum-2.sum.weight) here c.loop-place.invariant c.in_ok-sum-2.ensures

pub quotient-requires : goal.quotient-requires
quotient-requires g c =
    let whole = g.T.Scalar.whole in
    let low = whole g.T.Scalar.LOW in
    let high = whole g.T.Scalar.HIGH in
    let spans = c.args.parts.now in
    let shares = c.args.shares.now in
    let all = all_summed low high (zip spans shares) c.loop-place.place (sums_of whole c.loop-place.sum.total c.loop-place.sum.weight) (parts_end spans shares c.loop-place.place c.requires.lengths c.loop-place-test.false) c.loop-place.invariant in
    subst (λ z. pos 0 <ℤ z) (sym (all.shares_are ∙ zip_shares spans shares c.requires.lengths)) c.requires.some

pub returns : goal.returns
returns g c =
    let whole = g.T.Scalar.whole in
    let low = whole g.T.Scalar.LOW in
    let high = whole g.T.Scalar.HIGH in
    let spans = c.args.parts.now in
    let shares = c.args.shares.now in
    let sums = sums_of whole c.loop-place.sum.total c.loop-place.sum.weight in
    let all = all_summed low high (zip spans shares) c.loop-place.place sums (parts_end spans shares c.loop-place.place c.requires.lengths c.loop-place-test.false) c.loop-place.invariant in
    shared_is whole low high (zip spans shares) sums c.quotient.result all c.quotient.ensures.low c.quotient.ensures.high
