-- What exact factors put on a row lies around what its coefficients put on it, and so the right sides bracket it.
use Rattle.std.proofs.Common.{◌≡◌, ℕ, zero, suc, ◌<ℤ◌, ℤ, pos, negsuc, ◌+ℤ◌, ◌-ℤ◌, ◌*ℤ◌, ◌≤ℤ◌, List, [], ◌∷◌, length, map, refl, sym, ap, ◌∙◌, arith}
use Rattle.std.specs.Int.Signed.{≤ℤ_refl}
use Rattle.whole_laws.specs.Ring.{ring, linear, weak}
use Rattle.whole_laws.specs.Sums.{sum_below, at}
use Rattle.whole_laws.specs.QuotientLaws.{floor-low, ceil-high}
use Rattle.fractions.specs.Fractions.{Fraction, Same, whole, plus, times, minus, product}
use Rattle.fractions.specs.FractionLaws.{Same_sym, AtMost_trans, AtMost-whole, whole-AtMost, AtMost-times, AtMost_cancel, times-plus}
use Rattle.fractions.specs.Spans.{Lies, LiesAt, EachLiesAt}
use Rattle.fractions.specs.SpanLaws.{Lies-Same, Lies-whole, Lies-plus, Lies-minus, Lies-product}
use Rattle.fb_span.specs.LeastSpans.{least_corner, greatest_corner}
use Rattle.fb_types.specs.declared.rows.Bounds.{Bounds}
use Rattle.security.specs.Points.{IsInBox}
use Rattle.domain_rows.specs.Brackets.{trillion, coefficient_of, deviation_of, ends_of_box, least_deviation, greatest_deviation, inner_side, outer_side, exchanged_at, Brackets}

-- ---- sums of products of two lists

abbrev weighted : List ℤ → List ℤ → ℤ
weighted [] xs = pos 0
weighted (a ∷ ks) [] = pos 0
weighted (a ∷ ks) (x ∷ xs) = a *ℤ x +ℤ weighted ks xs

from_front : (n : ℕ) (f : ℕ → ℤ) → sum_below (suc n) f ≡ f 0 +ℤ sum_below n (λ k. f (suc k))
from_front zero f = omega (arith, linear)
from_front (suc n) f = let e = from_front n f in omega (arith, linear, e)

summed : (ks xs : List ℤ) → length ks ≡ length xs → sum_below (length xs) (λ z. at ks z *ℤ at xs z) ≡ weighted ks xs
summed [] [] e = refl
summed [] (x ∷ xs) e = absurd (omega arith)
summed (a ∷ ks) [] e = absurd (omega arith)
summed (a ∷ ks) (x ∷ xs) e = from_front (length xs) (λ z. at (a ∷ ks) z *ℤ at (x ∷ xs) z) ∙ ap (λ v. a *ℤ x +ℤ v) (summed ks xs (omega arith))

-- ---- one zone

-- factor times position is coefficient times position and what the factor deviates by
split : (t a x : ℤ) (f : Fraction) → Same (plus (whole (a *ℤ x)) (product (minus (times t f) (whole a)) (whole x))) (times t (times x f))
split t a x f = record { same = step t a x f.num f.den }
  where
    step : (t a x n d : ℤ) → ((a *ℤ x) *ℤ ((d *ℤ pos 1) *ℤ pos 1) +ℤ (((t *ℤ n) *ℤ pos 1 +ℤ (negsuc 0 *ℤ a) *ℤ d) *ℤ x) *ℤ pos 1) *ℤ d ≡ (t *ℤ (x *ℤ n)) *ℤ (pos 1 *ℤ ((d *ℤ pos 1) *ℤ pos 1))
    step t a x n d = simp ring (omega (arith, linear))

one_zone : (s : ℤ × ℤ) (b : Bounds) (f : Fraction) (x : ℤ) → LiesAt trillion s f → b.low ≤ℤ x → x ≤ℤ b.high
    → Lies (times trillion (times x f)) (coefficient_of s *ℤ x +ℤ least_corner (deviation_of s) (ends_of_box b)) (coefficient_of s *ℤ x +ℤ greatest_corner (deviation_of s) (ends_of_box b))
one_zone s b f x h p q =
    let a = coefficient_of s in
    Lies-Same (split trillion a x f)
    (Lies-plus (a *ℤ x) (a *ℤ x) _ _ (Lies-whole (a *ℤ x) (a *ℤ x) (a *ℤ x) (≤ℤ_refl (a *ℤ x)) (≤ℤ_refl (a *ℤ x)))
    (Lies-product (s.0 -ℤ a) (s.1 -ℤ a) b.low b.high (Lies-minus s.0 s.1 a a h (Lies-whole a a a (≤ℤ_refl a) (≤ℤ_refl a))) (Lies-whole x b.low b.high p q)))

-- ---- all zones

abbrev InBox : List Bounds → List ℤ → Type 0
InBox [] [] = Unit {0}
InBox [] (x ∷ xs) = ⊥
InBox (b ∷ bs) [] = ⊥
InBox (b ∷ bs) (x ∷ xs) = (b.low ≤ℤ x) × (x ≤ℤ b.high) × InBox bs xs

listed : (bs : List Bounds) (xs : List ℤ) → IsInBox bs xs → InBox bs xs
listed [] [] h = tt
listed [] (x ∷ xs) h = absurd (let e = h.zones in omega (arith, e))
listed (b ∷ bs) [] h = absurd (let e = h.zones in omega (arith, e))
listed (b ∷ bs) (x ∷ xs) h =
    let first = h.inside 0 (omega arith) in
    let e = h.zones in
    (first.0, first.1, listed bs xs (record { zones = omega (arith, e); inside = λ z lt. h.inside (suc z) (omega (arith, lt)) }))

exchange_lies : (ss : List (ℤ × ℤ)) (bs : List Bounds) (fs : List Fraction) (xs : List ℤ) → EachLiesAt trillion ss fs → InBox bs xs → length bs ≡ length ss
    → Lies (times trillion (exchanged_at fs xs)) (weighted (map coefficient_of ss) xs +ℤ least_deviation ss bs) (weighted (map coefficient_of ss) xs +ℤ greatest_deviation ss bs)
exchange_lies [] [] [] [] h v e = Lies-whole (pos 0) (pos 0) (pos 0) (≤ℤ_refl (pos 0)) (≤ℤ_refl (pos 0))
exchange_lies [] [] [] (x ∷ xs) h v e = absurd v
exchange_lies [] [] (f ∷ fs) xs h v e = absurd h
exchange_lies [] (b ∷ bs) fs xs h v e = absurd (omega (arith, e))
exchange_lies (s ∷ ss) [] fs xs h v e = absurd (omega (arith, e))
exchange_lies (s ∷ ss) (b ∷ bs) [] xs h v e = absurd h
exchange_lies (s ∷ ss) (b ∷ bs) (f ∷ fs) [] h v e = absurd v
exchange_lies (s ∷ ss) (b ∷ bs) (f ∷ fs) (x ∷ xs) h v e =
    let rest = exchange_lies ss bs fs xs h.1 v.2 (omega (arith, e)) in
    let both = Lies-plus _ _ _ _ (one_zone s b f x h.0 v.0 v.1) rest in
    let same = Lies-Same (Same_sym (times-plus trillion (times x f) (exchanged_at fs xs))) both in
    record {
      above = AtMost_trans (AtMost-whole _ _ (omega (arith, linear))) same.above;
      below = AtMost_trans same.below (AtMost-whole _ _ (omega (arith, linear)));
    }

-- ---- the two inclusions

trillion-positive : pos 0 <ℤ trillion
trillion-positive = record { lt = tt }

length-coefficients : (ss : List (ℤ × ℤ)) → length (map coefficient_of ss) ≡ length ss
length-coefficients [] = refl
length-coefficients (s ∷ ss) = ap suc (length-coefficients ss)

pub brackets : (ss : List (ℤ × ℤ)) (ram : ℤ × ℤ) (bs : List Bounds) → length bs ≡ length ss
    → Brackets ss ram bs (map coefficient_of ss) (inner_side ss bs ram) (outer_side ss bs ram)
brackets ss ram bs e = record {
  inner = λ exact margin x factors m box meets.
      let as_long : length (map coefficient_of ss) ≡ length x = length-coefficients ss ∙ sym e ∙ sym box.zones in
      let sum = summed (map coefficient_of ss) x as_long in
      let down = floor-low (ram.0 -ℤ greatest_deviation ss bs) trillion trillion-positive in
      let lies = exchange_lies ss bs exact x factors (listed bs x box) e in
      let within = meets.within in
      AtMost_cancel trillion trillion-positive (AtMost_trans lies.below (AtMost_trans (AtMost-whole _ _ (omega (arith, linear, sum, down, within))) m.above));
  outer = λ exact margin x factors m box kept.
      let as_long : length (map coefficient_of ss) ≡ length x = length-coefficients ss ∙ sym e ∙ sym box.zones in
      let sum = summed (map coefficient_of ss) x as_long in
      let up = ceil-high (ram.1 -ℤ least_deviation ss bs) trillion trillion-positive in
      let lies = exchange_lies ss bs exact x factors (listed bs x box) e in
      let le = whole-AtMost _ _ (AtMost_trans lies.above (AtMost_trans (AtMost-times trillion (weak trillion trillion-positive) kept) m.below)) in
      record { within = omega (arith, linear, sum, up, le) };
}

pub brackets_at : (ss : List (ℤ × ℤ)) (ram : ℤ × ℤ) (bs : List Bounds) (a : List ℤ) (r_in r_out : ℤ) → length bs ≡ length ss
    → a ≡ map coefficient_of ss → r_in ≡ inner_side ss bs ram → r_out ≡ outer_side ss bs ram → Brackets ss ram bs a r_in r_out
brackets_at ss ram bs a r_in r_out e ea ei eo = rw (ea, ei, eo) (brackets ss ram bs e)
