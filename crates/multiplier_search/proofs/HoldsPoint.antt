-- Bounds that hold a point are ones over which the search is made.
use Rattle.std.proofs.Common.{◌≡◌, ℕ, ◌<◌, ℤ, pos, List, length, ap, sym, ◌∙◌, arith}
use Rattle.std.specs.Prelude.{◌≤ℤ◌, slice_get}
use Rattle.std.proofs.lemmas.Int.{ints}
use Rattle.whole_laws.specs.Sums.{sum_below, at}
use Rattle.whole_laws.specs.SumLaws.{sum_below-mono}
use Rattle.fb_types.specs.Domain.{IsPoint, low_of, high_of}
use Rattle.fb_types.specs.declared.rows.Bounds.{Bounds}
use Rattle.multiplier_search.specs.Found.{IsBox}

between : (l x h : ℤ) → l ≤ℤ x → x ≤ℤ h → l ≤ℤ h
between l x h p q = omega (arith, ints)

pub box-of-point : (bounds : List Bounds) (x : List ℤ) → 0 < length bounds → IsPoint bounds x → IsBox bounds
box-of-point bounds x s p =
    let n = length bounds in
    let balanced : sum_below n (λ z. at x z) ≡ pos 0 = ap (λ (k : ℕ). sum_below k (λ z. at x z)) (sym p.zones) ∙ p.balanced in
    record {
      some_zone = s;
      ordered = λ z l. between _ (at x z) _ (p.inside z l).0 (p.inside z l).1;
      lows = let m : sum_below n (λ z. low_of (slice_get bounds z)) ≤ℤ sum_below n (λ z. at x z) = sum_below-mono n _ _ (λ z l. (p.inside z l).0) in omega (arith, ints, m, balanced);
      highs = let m : sum_below n (λ z. at x z) ≤ℤ sum_below n (λ z. high_of (slice_get bounds z)) = sum_below-mono n _ _ (λ z l. (p.inside z l).1) in omega (arith, ints, m, balanced);
    }
