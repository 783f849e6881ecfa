use Rattle.std.proofs.Common.{ℕ, ◌<◌, ◌^◌, pos, length, get_or, subst, sym, arith, rules}
use Rattle.std.specs.Prelude.{◌≤ℤ◌, Option, slice_get}
use Rattle.std.proofs.lemmas.Option.{slice_get-get_or}
use borrow.Author.Count.{below_more}
use Rattle.whole_laws.specs.Sums.{at, IsWithin}
use Rattle.whole_laws.specs.SumLaws.{sum_below-more}
use Rattle.fb_types.specs.Domain.{low_of, high_of}
use Rattle.fb_types.specs.declared.rows.Bounds.{Bounds}
use Rattle.redundancy.proofs.Slacks.{position_added, between}
use Rattle.redundancy.proofs.points.is_point.Goals as goal

pub loop-z-preserved : goal.loop-z-preserved
loop-z-preserved c =
    let z = c.loop-z.z in
    let bounds = c.args.bounds.now in
    let x = c.args.x.now in
    let d : Bounds = record { low = pos 0; high = pos 0 } in
    let l : z < length bounds = omega (arith, c.loop-z-test.true, c.if-x-bounds.false) in
    let here : ((get_or bounds z d).low ≤ℤ at x z) × (at x z ≤ℤ (get_or bounds z d).high) = search rules in
    let small : IsWithin (10 ^ 11) (at x z) = between (10 ^ 11) _ (at x z) _ (c.requires.bounds_in_range.lows z d l) (c.requires.bounds_in_range.highs z d l) here.0 here.1 in
    let inside : (low_of (slice_get bounds z) ≤ℤ at x z) × (at x z ≤ℤ high_of (slice_get bounds z)) =
    subst (λ (o : Option Bounds). (low_of o ≤ℤ at x z) × (at x z ≤ℤ high_of o)) (sym (slice_get-get_or bounds z d l)) here in
    let s = position_added z _ (at x z) _ _ (omega (arith, l, c.requires.bounds_in_range.few)) c.loop-z.invariant.0 c.loop-z.invariant.1 small (sum_below-more z (at x)) in
    (s.0, s.1, below_more (λ (k : ℕ). (low_of (slice_get bounds k) ≤ℤ at x k) × (at x k ≤ℤ high_of (slice_get bounds k))) z c.loop-z.invariant.2 inside)
