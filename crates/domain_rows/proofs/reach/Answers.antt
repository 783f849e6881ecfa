use Rattle.std.proofs.Common.{List, ℤ, subst, arith}
use Rattle.std.specs.List.{All, zip}
use Rattle.fb_span.specs.Ends.{EndsWithin}
use Rattle.fb_types.specs.declared.rows.Bounds.{Bounds}
use Rattle.domain_rows.specs.Brackets.{ends_of_box}
use Rattle.domain_rows.specs.FittingReaches.{difference_of}
use Rattle.domain_rows.proofs.Reaches.{sized, narrow_fits, wide_fits, is_deviation}
use Rattle.domain_rows.proofs.reach.Goals as goal

pub greatest_sum-requires : goal.greatest_sum-requires
greatest_sum-requires c =
    let count = c.len.ensures.count in
    let few = c.requires.bounds_in.few in
    record { deviation_in = c.deviation_size-deviation.ensures.few; bound_in = c.bound_size-bound.ensures.few; zones_in = omega (arith, count, few) }

pub fitting_reach-requires : goal.fitting_reach-requires
fitting_reach-requires c =
    let factors = c.args.factors.now in
    let a = c.args.a.now in
    let bounds = c.args.bounds.now in
    let are_sized = sized c.deviation_size-deviation.result c.bound_size-bound.result factors a bounds
    (subst (λ (ss : List (ℤ × ℤ)). All (λ d. EndsWithin c.deviation_size-deviation.result (difference_of d)) (zip ss a)) c.as_slice.ensures.items c.deviation_size-deviation.ensures.within)
    (subst (λ (bs : List Bounds). All (λ b. EndsWithin c.bound_size-bound.result (ends_of_box b)) bs) c.as_slice-2.ensures.items c.bound_size-bound.ensures.within) in
    record {
      as_many_places = c.requires.as_many_places;
      as_many_bounds = c.requires.as_many_bounds;
      ordered = c.requires.ordered;
      fits = narrow_fits c.deviation_size-deviation.result c.bound_size-bound.result c.len.result c.greatest_sum.result factors a bounds c.requires.as_many_places c.requires.as_many_bounds
          c.deviation_size-deviation.ensures.few c.bound_size-bound.ensures.few are_sized c.len.ensures.count c.greatest_sum.ensures c.if-greatest_sum-le-NARROW_SUM.true;
    }

pub fitting_reach-requires-else-greatest_sum-le-NARROW_SUM : goal.fitting_reach-requires-else-greatest_sum-le-NARROW_SUM
fitting_reach-requires-else-greatest_sum-le-NARROW_SUM c =
    let factors = c.args.factors.now in
    let a = c.args.a.now in
    let bounds = c.args.bounds.now in
    let are_sized = sized c.deviation_size-deviation.result c.bound_size-bound.result factors a bounds
    (subst (λ (ss : List (ℤ × ℤ)). All (λ d. EndsWithin c.deviation_size-deviation.result (difference_of d)) (zip ss a)) c.as_slice.ensures.items c.deviation_size-deviation.ensures.within)
    (subst (λ (bs : List Bounds). All (λ b. EndsWithin c.bound_size-bound.result (ends_of_box b)) bs) c.as_slice-2.ensures.items c.bound_size-bound.ensures.within) in
    record {
      as_many_places = c.requires.as_many_places;
      as_many_bounds = c.requires.as_many_bounds;
      ordered = c.requires.ordered;
      fits = wide_fits c.deviation_size-deviation.result c.bound_size-bound.result factors a bounds c.requires.as_many_places c.requires.as_many_bounds c.requires.bounds_in.few
          c.deviation_size-deviation.ensures.few c.bound_size-bound.ensures.few are_sized;
    }

pub returns-then-greatest_sum-le-NARROW_SUM : goal.returns-then-greatest_sum-le-NARROW_SUM
returns-then-greatest_sum-le-NARROW_SUM c =
    let factors = c.args.factors.now in
    let a = c.args.a.now in
    let bounds = c.args.bounds.now in
    let are_sized = sized c.deviation_size-deviation.result c.bound_size-bound.result factors a bounds
    (subst (λ (ss : List (ℤ × ℤ)). All (λ d. EndsWithin c.deviation_size-deviation.result (difference_of d)) (zip ss a)) c.as_slice.ensures.items c.deviation_size-deviation.ensures.within)
    (subst (λ (bs : List Bounds). All (λ b. EndsWithin c.bound_size-bound.result (ends_of_box b)) bs) c.as_slice-2.ensures.items c.bound_size-bound.ensures.within) in
    let is = is_deviation c.deviation_size-deviation.result c.bound_size-bound.result factors a bounds c.fitting_reach.result c.requires.coefficients c.requires.as_many_places c.requires.as_many_bounds
    c.requires.bounds_in.few c.deviation_size-deviation.ensures.few c.bound_size-bound.ensures.few are_sized c.fitting_reach.ensures in
    record { low = is.low; high = is.high; within = is.within }

pub returns-else-greatest_sum-le-NARROW_SUM : goal.returns-else-greatest_sum-le-NARROW_SUM
returns-else-greatest_sum-le-NARROW_SUM c =
    let factors = c.args.factors.now in
    let a = c.args.a.now in
    let bounds = c.args.bounds.now in
    let are_sized = sized c.deviation_size-deviation.result c.bound_size-bound.result factors a bounds
    (subst (λ (ss : List (ℤ × ℤ)). All (λ d. EndsWithin c.deviation_size-deviation.result (difference_of d)) (zip ss a)) c.as_slice.ensures.items c.deviation_size-deviation.ensures.within)
    (subst (λ (bs : List Bounds). All (λ b. EndsWithin c.bound_size-bound.result (ends_of_box b)) bs) c.as_slice-2.ensures.items c.bound_size-bound.ensures.within) in
    let is = is_deviation c.deviation_size-deviation.result c.bound_size-bound.result factors a bounds c.fitting_reach-else-greatest_sum-le-NARROW_SUM.result c.requires.coefficients c.requires.as_many_places c.requires.as_many_bounds
    c.requires.bounds_in.few c.deviation_size-deviation.ensures.few c.bound_size-bound.ensures.few are_sized c.fitting_reach-else-greatest_sum-le-NARROW_SUM.ensures in
    record { low = is.low; high = is.high; within = is.within }
