use Rattle.std.proofs.Common.{List, ℤ, pos, ◌-ℤ◌, get_or, ap, ◌∙◌, subst, take_all, FitsSigned, w64, rules}
use Rattle.std.specs.List.{All, zip}
use Rattle.std.proofs.lemmas.Int.{to_z-of_z}
use Rattle.fb_span.specs.Ends.{EndsWithin}
use Rattle.domain_rows.specs.FittingReaches.{difference_of}
use Rattle.domain_rows.proofs.Sizes.{sized_more, greater_small}
use Rattle.domain_rows.proofs.Reaches.{pair_at, pairs_long}
use Rattle.domain_rows.proofs.deviation_size.Goals as goal

pub loop-zone-preserved : goal.loop-zone-preserved
loop-zone-preserved c =
    let factors = c.args.factors.now in
    let a = c.args.a.now in
    let zone = c.loop-zone.zone in
    let factor = c.index-factors-zone.result in
    let coefficient = get_or a zone (pos 0) in
    let coefficient_fits : FitsSigned w64 (get_or a zone (pos 0)) = search rules in
    let here = pair_at factors a zone factor c.loop-zone-test.true c.requires.as_many_places c.index-factors-zone.is in
    let same = c.deviation.ensures.value ∙ ap (λ (v : ℤ). (factor.0 -ℤ v, factor.1 -ℤ v)) (to_z-of_z w64 coefficient coefficient_fits) in
    record {
      within = sized_more difference_of (zip factors a) zone (factor, pos 0) (factor, coefficient) c.loop-zone.greatest c.size-size.result c.max-greatest.result here.0 here.1 c.loop-zone.invariant.within
          (subst (EndsWithin c.size-size.result) same c.size-size.ensures.within) c.max-greatest.ensures;
      few = greater_small c.loop-zone.greatest c.size-size.result c.max-greatest.result 2_000_000_000_000 c.max-greatest.ensures c.loop-zone.invariant.few (c.size-size.ensures.least 2_000_000_000_000 c.deviation.ensures.within);
    }

pub returns : goal.returns
returns c =
    let pairs = zip c.args.factors.now c.args.a.now in
    record {
      within = subst (λ (ds : List ((ℤ × ℤ) × ℤ)). All (λ d. EndsWithin c.loop-zone.greatest (difference_of d)) ds) (take_all c.loop-zone.zone pairs (pairs_long c.args.factors.now c.args.a.now c.loop-zone.zone c.requires.as_many_places c.loop-zone-test.false)) c.loop-zone.invariant.within;
      few = c.loop-zone.invariant.few;
    }
