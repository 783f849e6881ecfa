-- What 128 bits hold of powers, phase shifts and weights, in 10^-13 W.
use Rattle.std.proofs.Common.{◌≡◌, ℕ, suc, ◌+◌, ◌*◌, ◌^◌, ◌<◌, ◌≤◌, Bool, true, false, cond, eqb, List, length, get_or, take, All, ℤ, pos, negsuc, ◌+ℤ◌, ◌-ℤ◌, ◌*ℤ◌, neg_ℤ, ◌≤ℤ◌, FitsSigned, sym, ap, ap₂, subst, ◌∙◌, lit<, arith}
use mir.Syntax.{w64, w128}
use mir.Val.{SFits, to_z, of_z}
use Rattle.std.proofs.lemmas.Int.{ints, to_z-of_z}
use Rattle.std.proofs.lemmas.List.Elements.{All-get_or}
use Rattle.whole_laws.specs.Ring.{ring, linear}
use Rattle.whole_laws.specs.Sums.{at, IsWithin}
use Rattle.whole_laws.specs.SumLaws.{within_times}
use Rattle.fb_types.specs.declared.grid.Branch.{Branch}
use Rattle.fb_types.specs.declared.keys.Weight.{Weight}
use Rattle.fb_types.specs.declared.keys.Block.{Block}
use Rattle.grid_state.specs.GridState.{GridState, classes_of, class_at}
use Rattle.security.specs.Balances.{of_class, shift_of}
use Rattle.zonal_factors.specs.FactorSpans.{IsBlock}
use Rattle.right_sides.specs.Raised.{IsRaised, only_at, weights_at}
use Rattle.right_sides.proofs.Adding.{only_here}
use Rattle.right_sides.proofs.Classes.{weight_more}
use Rattle.right_sides.proofs.Sizes.{weights_within}

pub fits : (n : ℕ) (z : ℤ) → n < 2 ^ 127 → IsWithin n z → FitsSigned w128 z
fits n (pos k) l h = let le : k ≤ n = omega (arith, ints, h.high) in record { sfits = omega (arith, ints) }
fits n (negsuc k) l h = let le : suc k ≤ n = omega (arith, ints, h.low) in record { sfits = omega (arith, ints) }

-- a number more at a place, where all are small
pub sum_fits : (m n : ℕ) (xs : List ℤ) (i : ℕ) (x : ℤ) → m + n < 2 ^ 127 → i < length xs → All (λ z. IsWithin m z) xs → IsWithin n x → FitsSigned w128 (at xs i +ℤ x)
sum_fits m n xs i x l b small h =
    let here = All-get_or (λ z. IsWithin m z) xs i (pos 0) b small in
    fits (m + n) (at xs i +ℤ x) l (record { low = omega (arith, ints, here.low, h.low); high = omega (arith, ints, here.high, h.high) })

-- ---- phase shifts

-- a susceptance times a phase shift
product_within : (b phi : ℤ) → pos 1 ≤ℤ b → b ≤ℤ pos (10 ^ 11) → SFits w64 phi → IsWithin (10 ^ 11 * 2 ^ 63) (b *ℤ phi)
product_within b phi some small phi_fits = within_times (10 ^ 11) (2 ^ 63) b phi (record { low = omega (arith, ints, some); high = small }) (record { low = omega (arith, ints, phi_fits); high = omega (arith, ints, phi_fits) })

scaled_within : (z : ℤ) → IsWithin (10 ^ 11 * 2 ^ 63) z → IsWithin (10 ^ 15 * 2 ^ 63) (pos (10 ^ 4) *ℤ z)
scaled_within z h = record { low = omega (arith, ints, h.low); high = omega (arith, ints, h.high) }

shift_within : (b phi : ℤ) → pos 1 ≤ℤ b → b ≤ℤ pos (10 ^ 11) → SFits w64 phi → IsWithin (10 ^ 15 * 2 ^ 63) (pos (10 ^ 4) *ℤ (b *ℤ phi))
shift_within b phi some small phi_fits = scaled_within (b *ℤ phi) (product_within b phi some small phi_fits)

-- what the branch adds at a class
pub shift_of_within : (m : ℕ) (s : GridState) (br : Branch) (c : ℕ) (k : ℤ) → IsWithin m (k *ℤ (br.b *ℤ br.phi)) → IsWithin m (k *ℤ shift_of s br c)
shift_of_within m s br c k h = by_test (eqb (class_at s br.to) c) (eqb (class_at s br.from) c) (br.b *ℤ br.phi) h
  where
    by_test : (t u : Bool) (x : ℤ) → IsWithin m (k *ℤ x) → IsWithin m (k *ℤ (cond t x (pos 0) -ℤ cond u x (pos 0)))
    by_test true true x h = let e : k *ℤ (x -ℤ x) ≡ pos 0 = simp ring (omega (arith, linear)) in rw e (record { low = omega (arith, ints); high = omega (arith, ints) })
    by_test true false x h = let e : k *ℤ (x -ℤ pos 0) ≡ k *ℤ x = simp ring (omega (arith, linear)) in rw e h
    by_test false true x h = let e : k *ℤ (pos 0 -ℤ x) ≡ neg_ℤ (k *ℤ x) = simp ring (omega (arith, linear)) in rw e (record { low = omega (arith, ints, h.high); high = omega (arith, ints, h.low) })
    by_test false false x h = let e : k *ℤ (pos 0 -ℤ pos 0) ≡ pos 0 = simp ring (omega (arith, linear)) in rw e (record { low = omega (arith, ints); high = omega (arith, ints) })

abbrev held : ℤ → ℤ
held z = to_z w128 (of_z w128 z)

held_is : (n : ℕ) (z : ℤ) → n < 2 ^ 127 → IsWithin n z → held z ≡ z
held_is n z l h = to_z-of_z w128 z (fits n z l h)

-- the number turned, as the code computes it
pub turned_held : (n : ℕ) (x : ℤ) → n < 2 ^ 127 → IsWithin n x → held (pos 0 -ℤ held x) ≡ neg_ℤ (held x)
turned_held n x l h =
    let same = held_is n x l h in
    let turned : pos 0 -ℤ held x ≡ neg_ℤ x = omega (arith, ints, same) in
    ap held turned ∙ held_is n (neg_ℤ x) l (record { low = omega (arith, ints, h.high); high = omega (arith, ints, h.low) }) ∙ ap neg_ℤ (sym same)

-- the product as the code computes it
pub shift_held : (b phi f g : ℤ) → pos 1 ≤ℤ b → b ≤ℤ pos (10 ^ 11) → SFits w64 b → SFits w64 phi → f ≡ to_z w64 (of_z w64 b) → g ≡ to_z w64 (of_z w64 phi)
    → IsWithin (10 ^ 15 * 2 ^ 63) (held (pos (10 ^ 4) *ℤ held (held f *ℤ held g)))
shift_held b phi f g some small b_fits phi_fits ef eg = subst (IsWithin (10 ^ 15 * 2 ^ 63)) (sym value) all
  where
    all : IsWithin (10 ^ 15 * 2 ^ 63) (pos (10 ^ 4) *ℤ (b *ℤ phi))
    all = shift_within b phi some small phi_fits

    first : held f ≡ b
    first = ap held (ef ∙ to_z-of_z w64 b b_fits) ∙ held_is (10 ^ 11) b (lit< tt) (record { low = omega (arith, ints, some); high = small })

    second : held g ≡ phi
    second = ap held (eg ∙ to_z-of_z w64 phi phi_fits) ∙ held_is (2 ^ 63) phi (lit< tt) (record { low = omega (arith, ints, phi_fits); high = omega (arith, ints, phi_fits) })

    product : held (held f *ℤ held g) ≡ b *ℤ phi
    product = ap held (ap₂ ◌*ℤ◌ first second) ∙ held_is (10 ^ 11 * 2 ^ 63) (b *ℤ phi) (lit< tt) (product_within b phi some small phi_fits)

    value : held (pos (10 ^ 4) *ℤ held (held f *ℤ held g)) ≡ pos (10 ^ 4) *ℤ (b *ℤ phi)
    value = ap (λ z. held (pos (10 ^ 4) *ℤ z)) product ∙ held_is (10 ^ 15 * 2 ^ 63) (pos (10 ^ 4) *ℤ (b *ℤ phi)) (lit< tt) all

-- ---- weights

pub weight_held : (w f : ℤ) → SFits w64 w → f ≡ to_z w64 (of_z w64 w) → held (pos (10 ^ 13) *ℤ held f) ≡ pos (10 ^ 13) *ℤ w
weight_held w f w_fits ef = ap (λ z. held (pos (10 ^ 13) *ℤ z)) first ∙ held_is (10 ^ 13 * 2 ^ 63) (pos (10 ^ 13) *ℤ w) (lit< tt) all
  where
    small : IsWithin (2 ^ 63) w
    small = record { low = omega (arith, ints, w_fits); high = omega (arith, ints, w_fits) }

    first : held f ≡ w
    first = ap held (ef ∙ to_z-of_z w64 w w_fits) ∙ held_is (2 ^ 63) w (lit< tt) small

    all : IsWithin (10 ^ 13 * 2 ^ 63) (pos (10 ^ 13) *ℤ w)
    all = record { low = omega (arith, ints, small.low); high = omega (arith, ints, small.high) }

-- a weight more at the class of its node
pub weight_fits : (s : GridState) (block : Block) (ws : List Weight) (i : ℕ) (d : Weight) (class : ℕ) (x : ℤ) (xs ys : List ℤ) → IsBlock block → ws ≡ block.weights → i < length ws → (get_or ws i d).node < length s.class_of
    → class ≡ class_at s (get_or ws i d).node → class < classes_of s → x ≡ pos (10 ^ 13) *ℤ (get_or ws i d).weight → length xs ≡ classes_of s → All (λ z. IsWithin 0 z) xs
    → IsRaised xs ys (λ c. pos (10 ^ 13) *ℤ of_class s (weights_at (take i ws)) c) → FitsSigned w128 (at ys class +ℤ x)
weight_fits s block ws i d class x xs ys h same l below is few value size none raised =
    let here = All-get_or (λ z. IsWithin 0 z) xs class (pos 0) (omega (arith, size, few)) none in
    let sum = summed (at xs class) (at ys class) (pos (10 ^ 13) *ℤ of_class s (weights_at (take i ws)) class) (pos (10 ^ 13) *ℤ of_class s (weights_at (take (i + 1) ws)) class)
    (only_at (class_at s (get_or ws i d).node) (pos (10 ^ 13) *ℤ (get_or ws i d).weight) class) here (raised.values class (omega (arith, size, few)))
    (weight_more s (pos (10 ^ 13)) ws i class d l below)
    (value ∙ sym (only_here (class_at s (get_or ws i d).node) class (pos (10 ^ 13) *ℤ (get_or ws i d).weight) is)) in
    let all = subst (λ (vs : List Weight). IsWithin (10 ^ 25) (pos (10 ^ 13) *ℤ of_class s (weights_at (take (i + 1) vs)) class)) (sym same) (weights_within s block (i + 1) class h few) in
    fits (10 ^ 25) (at ys class +ℤ x) (lit< tt) (subst (IsWithin (10 ^ 25)) (sym sum) all)
  where
    summed : (p a f m o : ℤ) → IsWithin 0 p → a ≡ p +ℤ f → m ≡ f +ℤ o → x ≡ o → a +ℤ x ≡ m
    summed p a f m o none e g k = omega (arith, ints, none.low, none.high, e, g, k)
