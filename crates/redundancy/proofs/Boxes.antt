-- Bounds on both sides of 0 hold a point.
use Rattle.std.proofs.Common.{ℕ, ◌<◌, ◌≤◌, ℤ, pos, List, length, subst, sym, arith}
use Rattle.std.specs.Prelude.{◌≤ℤ◌, Option, slice_get}
use Rattle.std.specs.List.{All}
use Rattle.std.proofs.lemmas.Int.{ints}
use Rattle.std.proofs.lemmas.Option.{slice_get-get_or}
use Rattle.whole_laws.specs.SumLaws.{sum_below-low, sum_below-high}
use Rattle.fb_types.specs.Domain.{AreBounds, low_of, high_of}
use Rattle.fb_types.specs.declared.rows.Bounds.{Bounds}
use Rattle.multiplier_search.specs.Found.{IsBox}
use Rattle.redundancy.specs.Around.{IsAround}

around-low : (bounds : List Bounds) → All IsAround bounds → (z : ℕ) → z < length bounds → low_of (slice_get bounds z) ≤ℤ pos 0
around-low bounds a z l =
    let d : Bounds = record { low = pos 0; high = pos 0 } in
    subst (λ (o : Option Bounds). low_of o ≤ℤ pos 0) (sym (slice_get-get_or bounds z d l)) (a z d l).below

around-high : (bounds : List Bounds) → All IsAround bounds → (z : ℕ) → z < length bounds → pos 0 ≤ℤ high_of (slice_get bounds z)
around-high bounds a z l =
    let d : Bounds = record { low = pos 0; high = pos 0 } in
    subst (λ (o : Option Bounds). pos 0 ≤ℤ high_of o) (sym (slice_get-get_or bounds z d l)) (a z d l).above

ordered : (a b : ℤ) → a ≤ℤ pos 0 → pos 0 ≤ℤ b → a ≤ℤ b
ordered a b h k = omega (arith, ints)

pub is-box : (bounds : List Bounds) → 0 < length bounds → All IsAround bounds → IsBox bounds
is-box bounds s a = record {
  some_zone = s;
  ordered = λ z l. ordered _ _ (around-low bounds a z l) (around-high bounds a z l);
  lows = sum_below-low (length bounds) _ (around-low bounds a);
  highs = sum_below-high (length bounds) _ (around-high bounds a);
}

pub are-bounds : (bounds : List Bounds) → length bounds ≤ 64 → All IsAround bounds → AreBounds bounds
are-bounds bounds f a = record { few = f; lows = λ k d l. (a k d l).low; highs = λ k d l. (a k d l).high }
