-- The span of the spread holds the spread, and a class is right.
use Rattle.std.proofs.Common.{◌≡◌, ◌<◌, ℕ, ◌+◌, ℤ, pos, neg_ℤ, ◌-ℤ◌, ◌≤ℤ◌, ◌<ℤ◌, List, [], ◌∷◌, length, map, refl, sym, subst, subst₂, arith}
use Rattle.std.specs.Prelude.{Option, None}
use Rattle.std.specs.Int.{int_max, int_min}
use Rattle.std.specs.List.{All, fold}
use Rattle.std.proofs.lemmas.Int.{clamps, fold-int_max_bounds, fold-int_min_bounds}
use Rattle.std.proofs.lemmas.List.Elements.{All-head, All-tail, All-map}
use Rattle.whole_laws.specs.Ring.{linear}
use Rattle.whole_laws.specs.Sums.{IsWithin}
use Rattle.fractions.specs.Fractions.{Fraction, AtMost, whole, times}
use Rattle.fractions.specs.FractionLaws.{Same_sym, AtMost_trans, AtMost-Same, AtMost-whole, whole-AtMost, AtMost-times, AtMost_cancel, times-whole, times-minus}
use Rattle.fractions.specs.Greatest.{greatest_of, least_of}
use Rattle.fractions.specs.GreatestLaws.{Lies-greatest, Lies-least}
use Rattle.fractions.specs.Spans.{Lies, LiesAt, EachLiesAt, low_end, high_end}
use Rattle.fractions.specs.SpanLaws.{Lies-Same, Lies_wider, Lies-minus, Lies-meet}
use Rattle.fb_span.specs.Ends.{EndsWithin}
use Rattle.fb_span.specs.Exact.{IsFrom}
use Rattle.security.specs.Spreads.{spread_of, IsSelected}
use Rattle.security.proofs.SpreadLaws.{spread_not_negative, times-threshold}
use Rattle.cnec_selection.specs.SpreadSpans.{trillion, greatest_whole, least_whole, spread_low, spread_high, HoldsSpread}
use Rattle.cnec_selection.specs.FittingSpreads.{SpreadFits, IsSpread}
use Rattle.cnec_selection.specs.Classes.{level_of}

-- ---- the greatest and the least of numbers from -m to m are such numbers
fold_max_within : (m : ℕ) (a : ℤ) (zs : List ℤ) → IsWithin m a → All (IsWithin m) zs → IsWithin m (fold int_max a zs)
fold_max_within m a [] h k = h
fold_max_within m a (z ∷ zs) h k = fold_max_within m (int_max a z) zs (both (All-head (IsWithin m) z zs k)) (All-tail (IsWithin m) z zs k)
  where
    both : IsWithin m z → IsWithin m (int_max a z)
    both w = record { low = omega (arith, linear, clamps, h.low, w.low); high = omega (arith, linear, clamps, h.high, w.high) }

fold_min_within : (m : ℕ) (a : ℤ) (zs : List ℤ) → IsWithin m a → All (IsWithin m) zs → IsWithin m (fold int_min a zs)
fold_min_within m a [] h k = h
fold_min_within m a (z ∷ zs) h k = fold_min_within m (int_min a z) zs (both (All-head (IsWithin m) z zs k)) (All-tail (IsWithin m) z zs k)
  where
    both : IsWithin m z → IsWithin m (int_min a z)
    both w = record { low = omega (arith, linear, clamps, h.low, w.low); high = omega (arith, linear, clamps, h.high, w.high) }

greatest_within : (m : ℕ) (f : ℤ × ℤ → ℤ) (spans : List (ℤ × ℤ)) → All (λ s. IsWithin m (f s)) spans → IsWithin m (greatest_whole (map f spans))
greatest_within m f [] h = record { low = omega (arith, linear); high = omega (arith, linear) }
greatest_within m f (s ∷ ss) h = fold_max_within m (f s) (map f ss) (All-head (λ y. IsWithin m (f y)) s ss h) (All-map (IsWithin m) f ss (All-tail (λ y. IsWithin m (f y)) s ss h))

least_within : (m : ℕ) (f : ℤ × ℤ → ℤ) (spans : List (ℤ × ℤ)) → All (λ s. IsWithin m (f s)) spans → IsWithin m (least_whole (map f spans))
least_within m f [] h = record { low = omega (arith, linear); high = omega (arith, linear) }
least_within m f (s ∷ ss) h = fold_min_within m (f s) (map f ss) (All-head (λ y. IsWithin m (f y)) s ss h) (All-map (IsWithin m) f ss (All-tail (λ y. IsWithin m (f y)) s ss h))

-- the least is at most the greatest
pub least-greatest : (zs : List ℤ) → least_whole zs ≤ℤ greatest_whole zs
least-greatest [] = omega (arith, linear)
least-greatest (z ∷ zs) =
    let g = (fold-int_max_bounds z zs (fold int_max z zs) refl).0 in
    let l = (fold-int_min_bounds z zs (fold int_min z zs) refl).0 in
    omega (arith, linear, g, l)

-- ---- the spread
not_below_zero : {p : Fraction} (a b : ℤ) → AtMost (whole (pos 0)) p → Lies p a b → Lies p (int_max a (pos 0)) b
not_below_zero a b n h =
    let zero : Lies _ (pos 0) b = record { above = n; below = h.below } in
    Lies_wider (int_max a (pos 0)) (int_min b b) (int_max a (pos 0)) b (omega (arith, linear)) (omega (arith, linear, clamps)) (Lies-meet a b (pos 0) b h zero)

multiple_not_negative : (p : Fraction) → AtMost (whole (pos 0)) p → AtMost (whole (pos 0)) (times trillion p)
multiple_not_negative p h = AtMost_trans (AtMost-Same (Same_sym (times-whole trillion (pos 0)))) (AtMost-times trillion (omega (arith, linear)) h)

spread_lies : (spans : List (ℤ × ℤ)) (factors : List Fraction) → 0 < length spans → EachLiesAt trillion spans factors → Lies (times trillion (spread_of factors)) (spread_low spans) (spread_high spans)
spread_lies [] [] n h = absurd (omega arith)
spread_lies [] (p ∷ ps) n h = absurd h
spread_lies (s ∷ ss) [] n h = absurd h
spread_lies (s ∷ ss) (p ∷ ps) n h = not_below_zero _ _ (multiple_not_negative _ (spread_not_negative p ps))
    (Lies-Same (Same_sym (times-minus trillion (greatest_of (p ∷ ps)) (least_of (p ∷ ps))))
    (Lies-minus _ _ _ _ (Lies-greatest trillion (record { lt = tt }) s.0 s.1 ss p ps h.0 h.1) (Lies-least trillion (record { lt = tt }) s.0 s.1 ss p ps h.0 h.1)))

pub spread_held : (spans : List (ℤ × ℤ)) (spread : ℤ × ℤ) → 0 < length spans → spread.0 ≡ spread_low spans → spread.1 ≡ spread_high spans → HoldsSpread spans spread
spread_held spans spread n e f = λ factors h. subst₂ (λ (x y : ℤ). Lies (times trillion (spread_of factors)) x y) (sym e) (sym f) (spread_lies spans factors n h)

-- the ends of the spread are in order
pub spread_ordered : (spans : List (ℤ × ℤ)) (greatest least : ℤ × ℤ) (low high : ℤ) → greatest.0 ≤ℤ greatest.1 → least.0 ≤ℤ least.1 → greatest.0 ≡ greatest_whole (map low_end spans) → least.0 ≡ least_whole (map low_end spans)
    → low ≡ int_max (greatest.0 -ℤ least.1) (pos 0) → high ≡ greatest.1 -ℤ least.0 → low ≤ℤ high
spread_ordered spans greatest least low high g l eg el e f = let o = least-greatest (map low_end spans) in omega (arith, linear, clamps, g, l, eg, el, e, f, o)

-- ---- what fits a type
pub spread_from_zero : (low high : ℤ) (spans : List (ℤ × ℤ)) (greatest least : ℤ × ℤ) → greatest.0 ≤ℤ greatest.1 → least.0 ≤ℤ least.1 → greatest.0 ≡ greatest_whole (map low_end spans) → least.0 ≡ least_whole (map low_end spans)
    → IsFrom low high (greatest.0 -ℤ least.1) → IsFrom low high (greatest.1 -ℤ least.0) → IsFrom low high (int_max (greatest.0 -ℤ least.1) (pos 0))
spread_from_zero low high spans greatest least g l eg el h k =
    let o = spread_ordered spans greatest least _ _ g l eg el refl refl in
    record { above = omega (arith, linear, clamps, h.above); below = omega (arith, linear, k.below, o) }

pub no_spread : {T : Type 0} (whole : T → ℤ) (low high : ℤ) (factors : List (ℤ × ℤ)) (r : Option (T × T)) → r ≡ None → (SpreadFits low high factors → ⊥) → IsSpread whole low high r factors
no_spread whole low high factors r e n = subst (λ o. IsSpread whole low high o factors) (sym e) n

from_within : (m : ℕ) (low high z : ℤ) → low ≤ℤ neg_ℤ (pos m) → pos m ≤ℤ high → IsWithin m z → IsFrom low high z
from_within m low high z l h w = record { above = omega (arith, linear, l, w.low); below = omega (arith, linear, h, w.high) }

difference_fits : (m : ℕ) (low high a b : ℤ) → low ≤ℤ neg_ℤ (pos (m + m)) → pos (m + m) ≤ℤ high → IsWithin m a → IsWithin m b → IsFrom low high (a -ℤ b)
difference_fits m low high a b l h v w = record { above = omega (arith, linear, l, v.low, w.high); below = omega (arith, linear, h, v.high, w.low) }

-- numbers up to twice the ends are enough
pub spread_fits : (m : ℕ) (low high : ℤ) (spans : List (ℤ × ℤ)) → low ≤ℤ neg_ℤ (pos (m + m)) → pos (m + m) ≤ℤ high → All (EndsWithin m) spans → SpreadFits low high spans
spread_fits m low high spans l h each = record {
  ends = λ k d lt. record {
    low = from_within m low high _ (omega (arith, linear, l)) (omega (arith, linear, h)) (each k d lt).low;
    high = from_within m low high _ (omega (arith, linear, l)) (omega (arith, linear, h)) (each k d lt).high;
  };
  inner = difference_fits m low high _ _ l h (greatest_within m low_end spans (λ k d lt. (each k d lt).low)) (least_within m high_end spans (λ k d lt. (each k d lt).high));
  outer = difference_fits m low high _ _ l h (greatest_within m high_end spans (λ k d lt. (each k d lt).high)) (least_within m low_end spans (λ k d lt. (each k d lt).low));
}

-- ---- the class
pub below_right : (span : ℤ × ℤ) (t : ℕ) → span.1 <ℤ level_of t → (spread : Fraction) → LiesAt trillion span spread → IsSelected (pos t) spread → ⊥
below_right span t l spread h s =
    let reached = whole-AtMost (level_of t) span.1
    (AtMost_trans (AtMost-Same (Same_sym (times-threshold (pos t)))) (AtMost_trans (AtMost-times trillion (omega (arith, linear)) s) h.below)) in
    absurd (omega (arith, linear, l, reached))

pub certain_right : (span : ℤ × ℤ) (t : ℕ) → level_of t ≤ℤ span.0 → (spread : Fraction) → LiesAt trillion span spread → IsSelected (pos t) spread
certain_right span t l spread h =
    AtMost_cancel trillion (record { lt = tt }) (AtMost_trans (AtMost-Same (times-threshold (pos t))) (AtMost_trans (AtMost-whole (level_of t) span.0 l) h.above))
