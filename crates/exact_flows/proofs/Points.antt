-- The balance where zones have other net positions is the reference balance and what the zones moved, block by block.
use Rattle.std.proofs.Common.{◌≡◌, ℕ, zero, suc, ◌+◌, ◌<◌, ◌^◌, Bool, true, false, cond, ℤ, pos, ◌+ℤ◌, ◌-ℤ◌, ◌*ℤ◌, ◌<ℤ◌, List, length, get_or, sym, ap, ap₂, ◌∙◌, arith}
use Rattle.std.specs.Prelude.{◌==◌, if◌then◌else◌}
use Rattle.std.specs.List.{range_with_len}
use Rattle.whole_laws.specs.Ring.{ring, linear}
use Rattle.whole_laws.specs.Sums.{sum_below, at}
use Rattle.whole_laws.specs.SumLaws.{sum_below-same}
use Rattle.fractions.specs.Fractions.{Fraction, Same, whole, plus, times, over, total}
use Rattle.fractions.specs.FractionLaws.{Same_refl, Same_sym, Same_trans, Same-plus, Same-times, Same-over, times-plus, plus-whole}
use Rattle.fractions.specs.TotalLaws.{Same-total, total-plus, total-times, total-over, total-zero, total-total}
use Rattle.fb_types.specs.declared.grid.Grid.{Grid}
use Rattle.fb_types.specs.declared.keys.Block.{Block}
use Rattle.fb_types.specs.declared.keys.Column.{Column}
use Rattle.grid_state.specs.GridState.{GridState, classes_of, class_at}
use Rattle.security.specs.Quotients.{divisor_of, divisor-positive, divided}
use Rattle.security.specs.Balances.{of_class, injection_at, shifts_at, base_balance, weight_at, key_at, Exchange, injection_with, balance_with}
use Rattle.exact_flows.proofs.Listed.{at_classes}

-- ---- sums over the nodes of a class

from_front : (n : ℕ) (f : ℕ → ℤ) → sum_below (suc n) f ≡ f 0 +ℤ sum_below n (λ k. f (suc k))
from_front zero f = omega (arith, linear)
from_front (suc n) f = let e = from_front n f in omega (arith, linear, e)

total_range : (g : ℕ → ℤ) (a n : ℕ) → Same (total (λ k. whole (g k)) (range_with_len a n)) (whole (sum_below n (λ k. g (a + k))))
total_range g a zero = Same_refl _
total_range g a (suc n) =
    Same_trans (Same-plus (Same_refl (whole (g a))) (total_range g (a + 1) n))
    (Same_trans (plus-whole (g a) (sum_below n (λ k. g ((a + 1) + k)))) (record { same = ap (λ v. v *ℤ pos 1) joined }))
  where
    joined : g a +ℤ sum_below n (λ k. g ((a + 1) + k)) ≡ sum_below (suc n) (λ k. g (a + k))
    joined =
        let here : a ≡ a + 0 = omega arith in
        ap₂ (λ u v. u +ℤ v) (ap g here) (sum_below-same n (λ k. g ((a + 1) + k)) (λ k. g (a + suc k)) (λ k l. let e : (a + 1) + k ≡ a + suc k = omega arith in ap g e))
        ∙ sym (from_front n (λ k. g (a + k)))

-- what the nodes of the class i have together, fractions or whole numbers
abbrev in_class : GridState → ℕ → (ℕ → Fraction) → Fraction
in_class s i f = total (λ n. if class_at s n == i then f n else whole (pos 0)) (range_with_len 0 (length s.class_of))

whole_if : (b : Bool) (z : ℤ) → Same (cond b (whole z) (whole (pos 0))) (whole (cond b z (pos 0)))
whole_if true z = Same_refl _
whole_if false z = Same_refl _

in_class-whole : (s : GridState) (i : ℕ) (f : ℕ → ℤ) → Same (in_class s i (λ n. whole (f n))) (whole (of_class s f i))
in_class-whole s i f =
    Same_trans (Same-total _ (λ n. whole (if class_at s n == i then f n else pos 0)) (range_with_len 0 (length s.class_of)) (λ k d l. whole_if (class_at s _ == i) (f _)))
    (Same_trans (total_range (λ n. if class_at s n == i then f n else pos 0) 0 (length s.class_of))
    (record {
      same = ap (λ v. v *ℤ pos 1) (sum_below-same (length s.class_of) (λ k. if class_at s (0 + k) == i then f (0 + k) else pos 0) (λ n. if class_at s n == i then f n else pos 0)
          (λ k l. let e : 0 + k ≡ k = omega arith in ap (λ n. if class_at s n == i then f n else pos 0) e));
    }))

plus_if : (b : Bool) (p q : Fraction) → Same (cond b (plus p q) (whole (pos 0))) (plus (cond b p (whole (pos 0))) (cond b q (whole (pos 0))))
plus_if true p q = Same_refl _
plus_if false p q = record { same = simp ring }

in_class-plus : (s : GridState) (i : ℕ) (f g : ℕ → Fraction) → Same (in_class s i (λ n. plus (f n) (g n))) (plus (in_class s i f) (in_class s i g))
in_class-plus s i f g =
    Same_trans (Same-total _ (λ n. plus (if class_at s n == i then f n else whole (pos 0)) (if class_at s n == i then g n else whole (pos 0))) (range_with_len 0 (length s.class_of)) (λ k d l. plus_if (class_at s _ == i) (f _) (g _)))
    (total-plus (λ n. if class_at s n == i then f n else whole (pos 0)) (λ n. if class_at s n == i then g n else whole (pos 0)) (range_with_len 0 (length s.class_of)))

times_if : (b : Bool) (k : ℤ) (p : Fraction) → Same (cond b (times k p) (whole (pos 0))) (times k (cond b p (whole (pos 0))))
times_if true k p = Same_refl _
times_if false k p = record { same = simp ring }

in_class-times : (s : GridState) (i : ℕ) (k : ℤ) (f : ℕ → Fraction) → Same (in_class s i (λ n. times k (f n))) (times k (in_class s i f))
in_class-times s i k f =
    Same_trans (Same-total _ (λ n. times k (if class_at s n == i then f n else whole (pos 0))) (range_with_len 0 (length s.class_of)) (λ j d l. times_if (class_at s _ == i) k (f _)))
    (total-times k (λ n. if class_at s n == i then f n else whole (pos 0)) (range_with_len 0 (length s.class_of)))

over_if : (b : Bool) (k : ℤ) (h : pos 0 <ℤ k) (p : Fraction) → Same (cond b (over p k h) (whole (pos 0))) (over (cond b p (whole (pos 0))) k h)
over_if true k h p = Same_refl _
over_if false k h p = record { same = simp ring }

in_class-over : (s : GridState) (i : ℕ) (k : ℤ) (h : pos 0 <ℤ k) (f : ℕ → Fraction) → Same (in_class s i (λ n. over (f n) k h)) (over (in_class s i f) k h)
in_class-over s i k h f =
    Same_trans (Same-total _ (λ n. over (if class_at s n == i then f n else whole (pos 0)) k h) (range_with_len 0 (length s.class_of)) (λ j d l. over_if (class_at s _ == i) k h (f _)))
    (total-over k h (λ n. if class_at s n == i then f n else whole (pos 0)) (range_with_len 0 (length s.class_of)))

total_if : {A : Type 0} (b : Bool) (f : A → Fraction) (xs : List A) → Same (cond b (total f xs) (whole (pos 0))) (total (λ x. cond b (f x) (whole (pos 0))) xs)
total_if true f xs = Same_refl _
total_if false f xs = Same_sym (total-zero xs)

-- the sum over a list goes outside
in_class-total : {A : Type 0} (s : GridState) (i : ℕ) (f : A → ℕ → Fraction) (xs : List A) → Same (in_class s i (λ n. total (λ x. f x n) xs)) (total (λ x. in_class s i (f x)) xs)
in_class-total s i f xs =
    Same_trans (Same-total _ (λ n. total (λ x. if class_at s n == i then f x n else whole (pos 0)) xs) (range_with_len 0 (length s.class_of)) (λ j d l. total_if (class_at s _ == i) (λ x. f x _) xs))
    (total-total (λ n x. if class_at s n == i then f x n else whole (pos 0)) (range_with_len 0 (length s.class_of)) xs)

-- ---- keys

-- what a block adds at the class i for one watt of its zone
abbrev pub block_part : GridState → ℕ → Block → Fraction
block_part s i block = divided (times block.share (whole (of_class s (weight_at block) i))) (pos (10 ^ 8) *ℤ block.total)

abbrev pub zone_part : GridState → ℕ → Column → Fraction
zone_part s i key = total (block_part s i) key.blocks

key_per_class : (s : GridState) (i : ℕ) (key : Column) → Same (in_class s i (key_at key)) (zone_part s i key)
key_per_class s i key =
    Same_trans (in_class-total s i (λ block n. divided (whole (block.share *ℤ weight_at block n)) (pos (10 ^ 8) *ℤ block.total)) key.blocks)
    (Same-total _ (block_part s i) key.blocks (λ k d l. one (get_or key.blocks k d)))
  where
    one : (block : Block) → Same (in_class s i (λ n. divided (whole (block.share *ℤ weight_at block n)) (pos (10 ^ 8) *ℤ block.total))) (block_part s i block)
    one block =
        let d = divisor_of (pos (10 ^ 8) *ℤ block.total) in
        let h = divisor-positive (pos (10 ^ 8) *ℤ block.total) in
        Same_trans (in_class-over s i d h (λ n. whole (block.share *ℤ weight_at block n)))
        (Same-over d h (Same_trans (in_class-times s i block.share (λ n. whole (weight_at block n))) (Same-times block.share (in_class-whole s i (weight_at block)))))

-- what the zones moved at the class i
abbrev pub moved : GridState → List Exchange → ℕ → Fraction
moved s zones i = total (λ (z : Exchange). times (z.position -ℤ z.reference) (zone_part s i z.key)) zones

injection_per_class : (s : GridState) (grid : Grid) (zones : List Exchange) (i : ℕ)
    → Same (in_class s i (injection_with grid zones)) (plus (whole (of_class s (injection_at grid) i)) (moved s zones i))
injection_per_class s grid zones i =
    Same_trans (in_class-plus s i (λ n. whole (injection_at grid n)) (λ n. total (λ (z : Exchange). times (z.position -ℤ z.reference) (key_at z.key n)) zones))
    (Same-plus (in_class-whole s i (injection_at grid))
    (Same_trans (in_class-total s i (λ (z : Exchange) n. times (z.position -ℤ z.reference) (key_at z.key n)) zones)
    (Same-total _ (λ (z : Exchange). times (z.position -ℤ z.reference) (zone_part s i z.key)) zones (λ k d l. one (get_or zones k d)))))
  where
    one : (z : Exchange) → Same (in_class s i (λ n. times (z.position -ℤ z.reference) (key_at z.key n))) (times (z.position -ℤ z.reference) (zone_part s i z.key))
    one z = Same_trans (in_class-times s i (z.position -ℤ z.reference) (key_at z.key)) (Same-times (z.position -ℤ z.reference) (key_per_class s i z.key))

-- the balance of a class is that of the reference and what the zones moved, in nanowatts
pub balance_is : (s : GridState) (grid : Grid) (zones : List Exchange) (i : ℕ) → i < classes_of s
    → Same (balance_with s grid zones i) (plus (whole (at (base_balance s grid) i)) (times (pos (10 ^ 9)) (moved s zones i)))
balance_is s grid zones i l =
    Same_trans (Same-plus (Same_trans (Same-times (pos (10 ^ 9)) (injection_per_class s grid zones i)) (times-plus (pos (10 ^ 9)) (whole (of_class s (injection_at grid) i)) (moved s zones i))) (Same_refl (whole (shifts_at s grid i))))
    (record {
      same = step (pos (10 ^ 9)) (of_class s (injection_at grid) i) (moved s zones i).num (moved s zones i).den (shifts_at s grid i) (at (base_balance s grid) i)
          (at_classes s (λ c. pos (10 ^ 9) *ℤ of_class s (injection_at grid) c +ℤ shifts_at s grid c) i l);
    })
  where
    plain : (a b c d e : ℤ) → (((a *ℤ b) *ℤ d +ℤ (a *ℤ c) *ℤ pos 1) *ℤ pos 1 +ℤ e *ℤ (pos 1 *ℤ d)) *ℤ (pos 1 *ℤ d) ≡ ((a *ℤ b +ℤ e) *ℤ d +ℤ (a *ℤ c) *ℤ pos 1) *ℤ ((pos 1 *ℤ d) *ℤ pos 1)
    plain a b c d e = simp ring

    step : (a b c d e f : ℤ) → f ≡ a *ℤ b +ℤ e → (((a *ℤ b) *ℤ d +ℤ (a *ℤ c) *ℤ pos 1) *ℤ pos 1 +ℤ e *ℤ (pos 1 *ℤ d)) *ℤ (pos 1 *ℤ d) ≡ (f *ℤ d +ℤ (a *ℤ c) *ℤ pos 1) *ℤ ((pos 1 *ℤ d) *ℤ pos 1)
    step a b c d e f g = plain a b c d e ∙ ap (λ v. (v *ℤ d +ℤ (a *ℤ c) *ℤ pos 1) *ℤ ((pos 1 *ℤ d) *ℤ pos 1)) (sym g)
