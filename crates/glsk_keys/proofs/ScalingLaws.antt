-- Scaled blocks.
use Rattle.std.proofs.Common.{◌≡◌, ℕ, zero, suc, ◌+◌, ◌-◌, ◌*◌, ◌/◌, ◌^◌, ◌<◌, ◌≤◌, Bool, true, false, inl, inr, ℤ, pos, negsuc, ◌*ℤ◌, ◌<ℤ◌, List, [], ◌∷◌, ◌++◌, length, drop, get_or, refl, sym, ap, subst, ◌∙◌, arith, cond}
use Rattle.std.proofs.Math.Nat.{pow-suc, one-le-pow, pow-le-pow_right}
use mir.Syntax.{w64, w128}
use mir.Val.{SFits, to_z, of_z}
use lib.Signed.{quot_z}
use Rattle.std.specs.Prelude.{◌≤ℤ◌, ◌<ℤ◌, All, int_le, int_lt, IsTrue, ◌↔◌}
use Rattle.std.proofs.lemmas.Int.{ints, to_z-of_z}
use Rattle.std.proofs.lemmas.List.{at_drop_more, at_drop_all, append_assoc, append-nil}
use Rattle.std.proofs.lemmas.List.Elements.{All-head, All-tail}
use Rattle.fb_types.specs.declared.keys.Weight.{Weight}
use Rattle.whole_laws.specs.Ring.{linear, scale-≤}
use Rattle.whole_laws.specs.Sums.{IsWithin}
use Rattle.whole_laws.specs.SumLaws.{sum_over-nonnegative}
use Rattle.glsk_keys.specs.Measures.{itself, total_of}
use Rattle.json_reading.proofs.Tests.{at_most, above}
use Rattle.glsk_keys.specs.ScaleFound.{power_up_to, either, taken, passed}
use Rattle.glsk_keys.specs.Scales.{IsScale}
use Rattle.glsk_keys.specs.Scaling.{weights_from}

-- ---- tests
pub at_most_test : (a b : ℤ) → IsTrue (int_le a b) ↔ (a ≤ℤ b)
at_most_test a b = (λ t. grind (arith, ints), λ h. grind (arith, ints))

pub fits : (m : ℕ) (z : ℤ) → IsWithin m z → m < 2 ^ 127 → SFits w128 z
fits m (pos n) h l = let k : n ≤ m = omega (arith, ints, h.high) in record { sfits = omega (arith, ints) }
fits m (negsuc n) h l = let k : suc n ≤ m = omega (arith, ints, h.low) in record { sfits = omega (arith, ints) }

pub fits64 : (z : ℤ) → pos 0 ≤ℤ z → z ≤ℤ pos (10 ^ 12) → SFits w64 z
fits64 (pos n) h k = let l : n ≤ 10 ^ 12 = omega (arith, ints, k) in record { sfits = omega (arith, ints) }
fits64 (negsuc n) h k = absurd (omega (arith, ints))

pub fits_64 : (m : ℕ) (z : ℤ) → IsWithin m z → m < 2 ^ 63 → SFits w64 z
fits_64 m (pos n) h l = let k : n ≤ m = omega (arith, ints, h.high) in record { sfits = omega (arith, ints) }
fits_64 m (negsuc n) h l = let k : suc n ≤ m = omega (arith, ints, h.low) in record { sfits = omega (arith, ints) }

-- ---- powers
-- a test that failed
pub over_test : (a b : ℤ) (t : Bool) → t ≡ false → (IsTrue t → a ≤ℤ b) × (a ≤ℤ b → IsTrue t) → b <ℤ a
over_test a b t e h = elim (either a b) [ inl k ↦ absurd (cc (h.1 k, e)) | inr l ↦ l ]

-- one step of the search
pub power_step : (i : ℕ) (power total : ℤ) → i < 12 → pos (10 ^ 12) <ℤ (power *ℤ total) → power ≡ pos (10 ^ (12 - i)) → power_up_to (12 - i) total ≡ power_up_to 12 total
    → (pos (10 ^ (12 - i) / 10) ≡ pos (10 ^ (12 - (i + 1)))) × (power_up_to (12 - (i + 1)) total ≡ power_up_to 12 total)
power_step i power total h o p s =
    let e : 12 - i ≡ suc (12 - (i + 1)) = omega arith in
    let q : 10 ^ suc (12 - (i + 1)) ≡ 10 * 10 ^ (12 - (i + 1)) = omega (arith, pow-suc 10 (12 - (i + 1))) in
    let d : 10 ^ (12 - i) / 10 ≡ 10 ^ (12 - (i + 1)) = rw e (rw q (omega arith)) in
    let p' : power ≡ pos (10 ^ suc (12 - (i + 1))) = p ∙ ap (λ k. pos (10 ^ k)) e in
    let t = passed (12 - (i + 1)) total (subst (λ z. pos (10 ^ 12) <ℤ (z *ℤ total)) p' o) in
    (ap (λ k. pos k) d, sym t ∙ (ap (λ k. power_up_to k total) (sym e) ∙ s))

pub power_found : (i : ℕ) (power total : ℤ) → i < 12 → (power *ℤ total) ≤ℤ pos (10 ^ 12) → power ≡ pos (10 ^ (12 - i)) → power_up_to (12 - i) total ≡ power_up_to 12 total → power ≡ power_up_to 12 total
power_found i power total h f p s =
    let e : 12 - i ≡ suc (12 - (i + 1)) = omega arith in
    let p' : power ≡ pos (10 ^ suc (12 - (i + 1))) = p ∙ ap (λ k. pos (10 ^ k)) e in
    let t = taken (12 - (i + 1)) total (subst (λ z. (z *ℤ total) ≤ℤ pos (10 ^ 12)) p' f) in
    p' ∙ (sym t ∙ (ap (λ k. power_up_to k total) (sym e) ∙ s))

pub power_last : (power total : ℤ) → power ≡ pos (10 ^ (12 - 12)) → power_up_to (12 - 12) total ≡ power_up_to 12 total → power ≡ power_up_to 12 total
unfolding power_up_to
power_last power total p s = p ∙ s

pub power_within : (i : ℕ) (power : ℤ) → power ≡ pos (10 ^ (12 - i)) → IsWithin (10 ^ 12) power
power_within i power p =
    let t : 0 < 10 = omega arith in
    let n : 12 - i ≤ 12 = omega arith in
    let l : 10 ^ (12 - i) ≤ 10 ^ 12 = pow-le-pow_right t n in
    subst (IsWithin (10 ^ 12)) (sym p) (record { low = omega (arith, ints); high = omega (arith, ints) })

-- the power as the code divides it
pub divided : (power : ℤ) (n : ℕ) → power ≡ pos n → n ≤ 10 ^ 12 → to_z w128 (of_z w128 (quot_z power (pos 10))) ≡ pos (n / 10)
divided power n e l =
    let small : n / 10 ≤ n = omega arith in
    let f : SFits w128 (pos (n / 10)) = record { sfits = omega (arith, ints) } in
    let q : quot_z power (pos 10) ≡ pos (n / 10) = rw e refl in
    rw q (to_z-of_z w128 _ f)

pub scale_some : (total power : ℤ) → IsScale total power → pos 1 ≤ℤ power
scale_some total power s =
    let t : 0 < 10 = omega arith in
    let l : 1 ≤ 10 ^ s.exponent = one-le-pow s.exponent 10 t in
    subst (λ z. pos 1 ≤ℤ z) (sym s.of_ten) (omega (arith, ints))

pub scale_fits : (total power : ℤ) → pos 1 ≤ℤ total → IsScale total power → SFits w64 (power *ℤ total)
scale_fits total power h s =
    let p = scale_some total power s in
    let z : pos 0 ≤ℤ power = omega (arith, linear) in
    let a = scale-≤ power (pos 0) total z (omega (arith, linear)) in
    let e : power *ℤ pos 0 ≡ pos 0 = omega (arith, ints) in
    fits64 _ (omega (arith, linear)) s.fits

-- ---- weights
pub weights-some : (k : ℕ) (power w : ℤ) (ws : List ℤ) → pos 0 <ℤ w → weights_from k power (w ∷ ws) ≡ record { node = k; weight = power *ℤ w } ∷ weights_from (k + 1) power ws
weights-some k power w ws h =
    let t : int_lt (pos 0) w ≡ true = grind (arith, ints) in
    ap (λ (b : Bool). cond b (record { node = k; weight = power *ℤ w } ∷ weights_from (k + 1) power ws) (weights_from (k + 1) power ws)) t

pub weights-none : (k : ℕ) (power w : ℤ) (ws : List ℤ) → w ≤ℤ pos 0 → weights_from k power (w ∷ ws) ≡ weights_from (k + 1) power ws
weights-none k power w ws h =
    let t : int_lt (pos 0) w ≡ false = grind (arith, ints) in
    ap (λ (b : Bool). cond b (record { node = k; weight = power *ℤ w } ∷ weights_from (k + 1) power ws) (weights_from (k + 1) power ws)) t

pub weights_skip : (power : ℤ) (values : List ℤ) (i : ℕ) (before all : List Weight) → i < length values → int_le (get_or values i (pos 0)) (pos 0) ≡ true
    → before ++ weights_from i power (drop i values) ≡ all → before ++ weights_from (i + 1) power (drop (i + 1) values) ≡ all
weights_skip power values i before all l t h =
    let none = weights-none i power (get_or values i (pos 0)) (drop (i + 1) values) (at_most _ _ t) in
    let more = at_drop_more (weights_from i power) values i (pos 0) l in
    ap (λ ws. before ++ ws) (sym (more ∙ none)) ∙ h

pub weights_take : (power : ℤ) (values : List ℤ) (i : ℕ) (before all : List Weight) → i < length values → int_le (get_or values i (pos 0)) (pos 0) ≡ false
    → before ++ weights_from i power (drop i values) ≡ all
    → (before ++ record { node = i; weight = power *ℤ get_or values i (pos 0) } ∷ []) ++ weights_from (i + 1) power (drop (i + 1) values) ≡ all
weights_take power values i before all l t h =
    let some = weights-some i power (get_or values i (pos 0)) (drop (i + 1) values) (above _ _ t) in
    let more = at_drop_more (weights_from i power) values i (pos 0) l in
    append_assoc before _ _ ∙ (ap (λ ws. before ++ ws) (sym (more ∙ some)) ∙ h)

pub weights_done : (power : ℤ) (values : List ℤ) (i : ℕ) (before all : List Weight) → length values ≤ i → before ++ weights_from i power (drop i values) ≡ all → before ≡ all
weights_done power values i before all l h = sym (append-nil before) ∙ (ap (λ ws. before ++ ws) (sym (at_drop_all (weights_from i power) values i l)) ∙ h)

-- a number of a list without negative ones is at most its sum
pub part_of_total : (xs : List ℤ) (i : ℕ) (d : ℤ) → All (λ w. pos 0 ≤ℤ w) xs → i < length xs → get_or xs i d ≤ℤ total_of xs
part_of_total [] i d h l = absurd (omega arith)
part_of_total (x ∷ xs) zero d h l = omega (arith, ints, sum_over-nonnegative itself xs (All-tail (λ w. pos 0 ≤ℤ w) x xs h))
part_of_total (x ∷ xs) (suc i) d h l = omega (arith, ints, All-head (λ w. pos 0 ≤ℤ w) x xs h, part_of_total xs i d (All-tail (λ w. pos 0 ≤ℤ w) x xs h) (omega arith))

-- so its product with the power is small
pub product_small : (power : ℤ) (xs : List ℤ) (i : ℕ) → pos 1 ≤ℤ power → All (λ w. pos 0 ≤ℤ w) xs → i < length xs → (power *ℤ total_of xs) ≤ℤ pos (10 ^ 12)
    → (pos 0 ≤ℤ (power *ℤ get_or xs i (pos 0))) × ((power *ℤ get_or xs i (pos 0)) ≤ℤ pos (10 ^ 12))
product_small power xs i p h l s =
    let z : pos 0 ≤ℤ power = omega (arith, linear) in
    let a = scale-≤ power (get_or xs i (pos 0)) (total_of xs) z (part_of_total xs i (pos 0) h l) in
    let b = scale-≤ power (pos 0) (get_or xs i (pos 0)) z (h i (pos 0) l) in
    let e : power *ℤ pos 0 ≡ pos 0 = omega (arith, ints) in
    (omega (arith, linear), omega (arith, linear))

-- ---- a product in 128 bits, cast to 64
pub product_is : (a b : ℤ) → SFits w128 a → SFits w128 b → SFits w64 (a *ℤ b) → SFits w128 (a *ℤ b)
product_is a b f g h = wide (a *ℤ b) h
  where
    wide : (z : ℤ) → SFits w64 z → SFits w128 z
    wide z k = record { sfits = omega (arith, ints) }
