-- One more row in a sum of multiplier times number of a row.
use Rattle.std.proofs.Common.{◌≡◌, ℕ, ◌+◌, ◌*◌, ◌^◌, ◌<◌, ◌≤◌, ℤ, pos, ◌+ℤ◌, ◌*ℤ◌, List, [], ◌∷◌, zero, suc, length, take, get_or, arith, sym, subst, ap, ◌∙◌}
use Rattle.std.specs.Prelude.{◌≤ℤ◌, Option, Some, None, slice_get}
use Rattle.std.specs.List.{All}
use Rattle.std.proofs.lemmas.Int.{ints}
use Rattle.std.proofs.lemmas.List.Elements.{All-take, All-head, All-tail}
use Rattle.whole_laws.specs.Sums.{sum_over, IsWithin}
use Rattle.whole_laws.specs.SumLaws.{sum_over-more, sum_over-take, sum_over-nonnegative, sum_over-weighted}
use Rattle.fb_types.specs.Domain.{row_at, side_of, coefficient_of, IsHalfOver}
use Rattle.fb_types.specs.declared.rows.Half.{Half}
use Rattle.fb_types.specs.declared.rows.Mult.{Mult}
use Rattle.std.proofs.Common.{FitsSigned, to_z, of_z, to_z-of_z}
use mir.Syntax.{w64, w128}
use Rattle.row_weighing.proofs.Wide.{fits, fits_product, product}
use Rattle.row_weighing.specs.Weights.{AreWeights}

abbrev pub term : (Option Half → ℤ) → List Half → Mult → ℤ
term g rows m = m.value *ℤ g (row_at rows m.row)

-- the first multipliers add up to little
first_total : (rows : List Half) (mults : List Mult) (i : ℕ) → AreWeights rows mults → sum_over (λ m. m.value) (take i mults) ≤ℤ pos (10 ^ 12)
first_total rows mults i w = omega (arith, ints, sum_over-take (λ (m : Mult). m.value) mults i w.nonnegative, w.total)

pub first_within : (g : Option Half → ℤ) (n : ℕ) (rows : List Half) (mults : List Mult) (i : ℕ) → AreWeights rows mults → ((k : ℕ) → IsWithin n (g (slice_get rows k))) → IsWithin (10 ^ 12 * n) (sum_over (term g rows) (take i mults))
first_within g n rows mults i w h =
    sum_over-weighted (λ (m : Mult). m.value) (λ (m : Mult). g (row_at rows m.row)) n (take i mults) (10 ^ 12) (All-take (λ (m : Mult). pos 0 ≤ℤ m.value) i mults w.nonnegative) (λ k d l. h _) (first_total rows mults i w)

-- each multiplier is small
pub value_within : (rows : List Half) (mults : List Mult) (i : ℕ) (d : Mult) → AreWeights rows mults → i < length mults → IsWithin (10 ^ 12) (get_or mults i d).value
value_within rows mults i d w l =
    let here = w.nonnegative i d l in
    let so_far = sum_over-nonnegative (λ (m : Mult). m.value) (take i mults) (All-take (λ (m : Mult). pos 0 ≤ℤ m.value) i mults w.nonnegative) in
    let more = sum_over-more (λ (m : Mult). m.value) mults i d l in
    let next = first_total rows mults (i + 1) w in
    record { low = omega (arith, ints); high = omega (arith, ints) }

-- what holds of every row and of no row holds of the row at any place
each_row : (Q : Option Half → Type 0) (P : Half → Type 0) → Q None → ((row : Half) → P row → Q (Some row)) → (rows : List Half) → All P rows → (k : ℕ) → Q (slice_get rows k)
each_row Q P none some [] h k = none
each_row Q P none some (row ∷ rows) h zero = some row (All-head P row rows h)
each_row Q P none some (row ∷ rows) h (suc k) = each_row Q P none some rows (All-tail P row rows h) k

zero_within : (n : ℕ) → IsWithin n (pos 0)
zero_within n = record { low = omega (arith, ints); high = omega (arith, ints) }

pub sides_within : (rows : List Half) → All (λ row. IsWithin (2 * 10 ^ 13) row.r) rows → (k : ℕ) → IsWithin (2 * 10 ^ 13) (side_of (slice_get rows k))
sides_within rows h k = each_row (λ o. IsWithin (2 * 10 ^ 13) (side_of o)) (λ row. IsWithin (2 * 10 ^ 13) row.r) (zero_within (2 * 10 ^ 13)) (λ row p. p) rows h k

pub coefficients_within : (zones zone : ℕ) (rows : List Half) → All (λ row. IsHalfOver zones row) rows → zone < zones → (k : ℕ) → IsWithin (10 ^ 12) (coefficient_of (slice_get rows k) zone)
coefficients_within zones zone rows h l k = each_row (λ o. IsWithin (10 ^ 12) (coefficient_of o zone)) (IsHalfOver zones) (zero_within (10 ^ 12)) (λ row p. p.coefficients zone (pos 0) (omega (arith, p.long))) rows h k

-- One turn of a loop that adds up multiplier times g of the row, for a g that is within n at every row. The code reads r, the
-- g of this row, widens it to x and adds v * x to the sum s: the product fits, the new sum fits, and it is the sum with this row.
abbrev pub times : ℤ → ℤ → ℤ
times v x = to_z w128 (of_z w128 v) *ℤ to_z w128 (of_z w128 x)

abbrev pub plus : ℤ → ℤ → ℤ
plus s p = s +ℤ to_z w128 (of_z w128 p)

pub one_more : (g : Option Half → ℤ) (n : ℕ) (rows : List Half) (mults : List Mult) (i : ℕ) (d : Mult) (s r x : ℤ) → AreWeights rows mults → ((k : ℕ) → IsWithin n (g (slice_get rows k))) → n ≤ 2 * 10 ^ 13 → i < length mults → s ≡ sum_over (term g rows) (take i mults) → r ≡ g (row_at rows (get_or mults i d).row) → x ≡ to_z w64 (of_z w64 r) → FitsSigned w128 (times (get_or mults i d).value x) × FitsSigned w128 (plus s (times (get_or mults i d).value x)) × (to_z w128 (of_z w128 (plus s (times (get_or mults i d).value x))) ≡ sum_over (term g rows) (take (i + 1) mults))
one_more g n rows mults i d s r x w h small l so_far read widened =
    let v = (get_or mults i d).value in
    let v_within = value_within rows mults i d w l in
    let r_within : IsWithin n r = subst (IsWithin n) (sym read) (h _) in
    let r_fits : FitsSigned w64 r = omega (arith, ints) in
    let same : x ≡ r = widened ∙ to_z-of_z r_fits in
    let x_within : IsWithin n x = subst (IsWithin n) (sym same) r_within in
    let small_product : 10 ^ 12 * n < 2 ^ 127 = omega arith in
    let p_fits = fits_product v x (10 ^ 12) n v_within x_within small_product (omega arith) (omega arith) in
    let p = product v x (10 ^ 12) n v_within x_within small_product (omega arith) (omega arith) in
    let more : sum_over (term g rows) (take (i + 1) mults) ≡ s +ℤ (v *ℤ x) =
    sum_over-more (term g rows) mults i d l ∙ ap (λ (t : ℤ). t +ℤ (v *ℤ g (row_at rows (get_or mults i d).row))) (sym so_far) ∙ ap (λ (t : ℤ). s +ℤ (v *ℤ t)) (sym (same ∙ read)) in
    let next : IsWithin (10 ^ 12 * n) (s +ℤ (v *ℤ x)) = subst (IsWithin (10 ^ 12 * n)) more (first_within g n rows mults (i + 1) w h) in
    let s_fits : FitsSigned w128 (s +ℤ (v *ℤ x)) = fits (10 ^ 12 * n) (s +ℤ (v *ℤ x)) next small_product in
    let same_sum : plus s (times v x) ≡ s +ℤ (v *ℤ x) = ap (λ (t : ℤ). s +ℤ t) p in
    (p_fits, subst (FitsSigned w128) (sym same_sum) s_fits, ap (λ (t : ℤ). to_z w128 (of_z w128 t)) same_sum ∙ to_z-of_z s_fits ∙ sym more)

-- the sum so far is small
pub so_far_within : (g : Option Half → ℤ) (n : ℕ) (rows : List Half) (mults : List Mult) (i : ℕ) (s : ℤ) → AreWeights rows mults → ((k : ℕ) → IsWithin n (g (slice_get rows k))) → s ≡ sum_over (term g rows) (take i mults) → IsWithin (10 ^ 12 * n) s
so_far_within g n rows mults i s w h e = subst (IsWithin (10 ^ 12 * n)) (sym e) (first_within g n rows mults i w h)
