use Rattle.std.proofs.Common.{◌<◌, pos, length, get_or, refl, arith, FitsSigned, w64, rules}
use Rattle.std.proofs.lemmas.Int.{to_z-of_z}
use Rattle.fb_types.specs.declared.rows.Bounds.{Bounds}
use Rattle.domain_rows.specs.FittingReaches.{zones_of}
use Rattle.domain_rows.proofs.Reaches.{zone_at, none_yet_at, one_more, all_summed, zero_past, zone_past, sum_past, no_reach, zones_end}
use Rattle.domain_rows.proofs.sum_of_reaches.Goals as goal

abbrev none : Bounds
none = record { low = pos 0; high = pos 0 }

pub returns-in_err-zero : goal.returns-in_err-zero
returns-in_err-zero g c =
    let whole = g.T.Scalar.whole in
    let low = whole g.T.Scalar.LOW in
    let high = whole g.T.Scalar.HIGH in
    let factors = c.args.factors.now in
    let a = c.args.a.now in
    let bounds = c.args.bounds.now in
    no_reach whole low high (zones_of factors a bounds) c.from_residual.result c.from_residual.ensures (zero_past low high (zones_of factors a bounds) c.in_err-zero.ensures)

pub loop-zone-init : goal.loop-zone-init
loop-zone-init g c =
    let whole = g.T.Scalar.whole in
    let low = whole g.T.Scalar.LOW in
    let high = whole g.T.Scalar.HIGH in
    let factors = c.args.factors.now in
    let a = c.args.a.now in
    let bounds = c.args.bounds.now in
    none_yet_at whole low high (zones_of factors a bounds) c.exactly-sum.result c.in_ok-zero.zero c.exactly-sum.ensures c.in_ok-zero.ensures

pub zone_reach-requires : goal.zone_reach-requires
zone_reach-requires g c =
    let in_bounds : c.loop-zone.zone < length c.args.bounds.now = omega arith in
    record { ordered = c.requires.ordered c.loop-zone.zone none in_bounds }

pub returns-in_err-reach : goal.returns-in_err-reach
returns-in_err-reach g c =
    let whole = g.T.Scalar.whole in
    let low = whole g.T.Scalar.LOW in
    let high = whole g.T.Scalar.HIGH in
    let factors = c.args.factors.now in
    let a = c.args.a.now in
    let bounds = c.args.bounds.now in
    let zone = c.loop-zone.zone in
    let factor = c.index-factors-zone.result in
    let coefficient_fits : FitsSigned w64 (get_or a zone (pos 0)) = search rules in
    let here = zone_at factors a bounds zone factor factor (pos 0) _ none (get_or bounds zone none) c.loop-zone-test.true c.requires.as_many_places c.requires.as_many_bounds
    c.index-factors-zone.is (to_z-of_z w64 (get_or a zone (pos 0)) coefficient_fits) refl in
    no_reach whole low high (zones_of factors a bounds) c.from_residual-in_err-reach.result c.from_residual-in_err-reach.ensures
    (zone_past low high (zones_of factors a bounds) zone ((factor, pos 0), none) _ here c.in_err-reach.ensures)

pub returns-in_err-sum : goal.returns-in_err-sum
returns-in_err-sum g c =
    let whole = g.T.Scalar.whole in
    let low = whole g.T.Scalar.LOW in
    let high = whole g.T.Scalar.HIGH in
    let factors = c.args.factors.now in
    let a = c.args.a.now in
    let bounds = c.args.bounds.now in
    let zone = c.loop-zone.zone in
    let factor = c.index-factors-zone.result in
    let coefficient_fits : FitsSigned w64 (get_or a zone (pos 0)) = search rules in
    let here = zone_at factors a bounds zone factor factor (pos 0) _ none (get_or bounds zone none) c.loop-zone-test.true c.requires.as_many_places c.requires.as_many_bounds
    c.index-factors-zone.is (to_z-of_z w64 (get_or a zone (pos 0)) coefficient_fits) refl in
    no_reach whole low high (zones_of factors a bounds) c.from_residual-in_err-sum.result c.from_residual-in_err-sum.ensures
    (sum_past low high (zones_of factors a bounds) zone ((factor, pos 0), none) _ (whole c.loop-zone.sum.0) (whole c.loop-zone.sum.1) (whole c.in_ok-reach.reach.0) (whole c.in_ok-reach.reach.1) here c.loop-zone.invariant
    c.in_ok-reach.ensures c.in_err-sum.ensures.exact)

pub loop-zone-preserved : goal.loop-zone-preserved
loop-zone-preserved g c =
    let whole = g.T.Scalar.whole in
    let low = whole g.T.Scalar.LOW in
    let high = whole g.T.Scalar.HIGH in
    let factors = c.args.factors.now in
    let a = c.args.a.now in
    let bounds = c.args.bounds.now in
    let zone = c.loop-zone.zone in
    let factor = c.index-factors-zone.result in
    let coefficient_fits : FitsSigned w64 (get_or a zone (pos 0)) = search rules in
    let here = zone_at factors a bounds zone factor factor (pos 0) _ none (get_or bounds zone none) c.loop-zone-test.true c.requires.as_many_places c.requires.as_many_bounds
    c.index-factors-zone.is (to_z-of_z w64 (get_or a zone (pos 0)) coefficient_fits) refl in
    one_more whole low high (zones_of factors a bounds) zone ((factor, pos 0), none) _ (whole c.loop-zone.sum.0) (whole c.loop-zone.sum.1) (whole c.in_ok-reach.reach.0) (whole c.in_ok-reach.reach.1)
    (whole c.in_ok-sum.sum.0) (whole c.in_ok-sum.sum.1) here c.loop-zone.invariant c.in_ok-reach.ensures c.in_ok-sum.ensures.exact

pub returns : goal.returns
returns g c =
    let whole = g.T.Scalar.whole in
    let low = whole g.T.Scalar.LOW in
    let high = whole g.T.Scalar.HIGH in
    let factors = c.args.factors.now in
    let a = c.args.a.now in
    let bounds = c.args.bounds.now in
    all_summed low high (zones_of factors a bounds) c.loop-zone.zone (whole c.loop-zone.sum.0) (whole c.loop-zone.sum.1)
    (zones_end factors a bounds c.loop-zone.zone c.requires.as_many_places c.requires.as_many_bounds c.loop-zone-test.false) c.loop-zone.invariant
