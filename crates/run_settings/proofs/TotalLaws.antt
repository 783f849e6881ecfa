-- Sums over the zones, one zone more. The code's `low += ..` stands here as the check shows it, each number taken to bits and
-- back.
use Rattle.std.proofs.Common.{◌≡◌, ℕ, ◌+◌, ◌*◌, ◌^◌, ◌<◌, ℤ, ◌+ℤ◌, List, length, take, get_or, FitsSigned, to_z, of_z, to_z-of_z, arith, sym, ap, ◌∙◌, subst}
use Rattle.std.proofs.lemmas.Int.{ints}
use Rattle.whole_laws.specs.Sums.{IsWithin, sum_over}
use Rattle.whole_laws.specs.SumLaws.{sum_over-more}
use Rattle.run_settings.specs.Totals.{AreTotals}
use Rattle.run_settings.specs.declared.model.Zone.{Zone}
use mir.Syntax.{w64, w128}

-- the next value of a sum, of which n terms were added
abbrev pub next_sum : ℤ → ℤ → ℤ
next_sum s x = to_z w128 (of_z w128 (s +ℤ to_z w128 (of_z w128 x)))

record IsNext (n : ℕ) (s z next : ℤ) : Type 0 where
  value : next ≡ s +ℤ z
  size : IsWithin ((n + 1) * 2 ^ 63) next

next_is : (n : ℕ) (s z x : ℤ) → n + 1 < 2 ^ 64 → IsWithin (n * 2 ^ 63) s → FitsSigned w64 z → x ≡ to_z w64 (of_z w64 z) → IsNext n s z (next_sum s x)
next_is n s z x few small f e =
    let is : x ≡ z = e ∙ to_z-of_z f in
    let wide : FitsSigned w128 z = omega (arith, ints) in
    let inner : to_z w128 (of_z w128 x) ≡ z = ap (λ (t : ℤ). to_z w128 (of_z w128 t)) is ∙ to_z-of_z wide in
    let whole : IsWithin ((n + 1) * 2 ^ 63) (s +ℤ z) = record { low = omega (arith, ints, small.low); high = omega (arith, ints, small.high) } in
    let fits : FitsSigned w128 (s +ℤ z) = omega (arith, ints, whole.low, whole.high) in
    let value : next_sum s x ≡ s +ℤ z = ap (λ (t : ℤ). to_z w128 (of_z w128 (s +ℤ t))) inner ∙ to_z-of_z fits in
    record { value = value; size = subst (IsWithin ((n + 1) * 2 ^ 63)) (sym value) whole }

pub totals_more : (zones : List Zone) (n : ℕ) (zone : Zone) (low high l h : ℤ) → n < length zones → n + 1 < 2 ^ 64 → zone ≡ get_or zones n zone
    → FitsSigned w64 zone.bounds.low → FitsSigned w64 zone.bounds.high → l ≡ to_z w64 (of_z w64 zone.bounds.low) → h ≡ to_z w64 (of_z w64 zone.bounds.high)
    → AreTotals zones n low high → AreTotals zones (n + 1) (next_sum low l) (next_sum high h)
totals_more zones n zone low high l h within few is fl fh el eh so_far =
    let lows = next_is n low zone.bounds.low l few so_far.low_size fl el in
    let highs = next_is n high zone.bounds.high h few so_far.high_size fh eh in
    record {
      low_is = lows.value ∙ ap (λ (s : ℤ). s +ℤ zone.bounds.low) so_far.low_is
          ∙ ap (λ (z : Zone). sum_over (λ (y : Zone). y.bounds.low) (take n zones) +ℤ z.bounds.low) is ∙ sym (sum_over-more (λ (z : Zone). z.bounds.low) zones n zone within);
      high_is = highs.value ∙ ap (λ (s : ℤ). s +ℤ zone.bounds.high) so_far.high_is
          ∙ ap (λ (z : Zone). sum_over (λ (y : Zone). y.bounds.high) (take n zones) +ℤ z.bounds.high) is ∙ sym (sum_over-more (λ (z : Zone). z.bounds.high) zones n zone within);
      low_size = lows.size;
      high_size = highs.size;
    }
