-- Right sides that are swept.
use Rattle.std.proofs.Common.{◌≡◌, ℕ, ◌+◌, ◌*◌, ◌<◌, ◌≤◌, Bool, true, false, cond, List, [], ◌∷◌, ◌++◌, length, length-append, below_more, All, ℤ, pos, negsuc, ◌≤ℤ◌, nat_abs, arith, sym, ap, subst, ◌∙◌}
use Rattle.std.proofs.lemmas.Int.{ints}
use Rattle.std.proofs.lemmas.Bool.{cond-true}
use Rattle.std.proofs.lemmas.List.{get_or_append_left, get_or_at}
use Rattle.std.proofs.lemmas.List.Elements.{All-from_get_or}
use Rattle.whole_laws.specs.Sums.{total_below, at}
use Rattle.whole_laws.specs.TotalLaws.{total_below-le, total_below-combine}
use Rattle.grid_state.specs.GridState.{GridState, is_free, classes_of, susceptance_of}
use Rattle.grid_laplacian.specs.Sizes.{free_susceptance_of, total_susceptance_of, size_of}
use Rattle.grid_laplacian.proofs.LawProofs.{total_of_list}
use Rattle.angle_bounds.specs.RightSides.{above_zero, below_zero, free_value, doubled, IsMade, IsAtMostOne}

-- one number more
pub made_more : (s : GridState) (f : ℕ → ℤ) (q : List ℤ) (n : ℕ) (x : ℤ) → IsMade s f q n → x ≡ free_value s f n → IsMade s f (q ++ x ∷ []) (n + 1)
made_more s f q n x is e = record {
  each_class = omega (arith, length-append q (x ∷ []), is.each_class);
  values = below_more (λ i. at (q ++ x ∷ []) i ≡ free_value s f i) n
      (λ i h. get_or_append_left q (x ∷ []) (pos 0) i (omega (arith, is.each_class)) ∙ is.values i h)
      (get_or_at q x [] (pos 0) n is.each_class ∙ e);
}

-- one number more that is at most the susceptance
pub little_more : (s : GridState) (left : List ℤ) (n : ℕ) (z : ℤ) → length left ≡ n → IsAtMostOne s left n → nat_abs z ≤ susceptance_of s n → IsAtMostOne s (left ++ z ∷ []) (n + 1)
little_more s left n z same is le = record {
  each = below_more (λ i. is_free s i ≡ true → nat_abs (at (left ++ z ∷ []) i) ≤ susceptance_of s i) n
      (λ i h on. rw (get_or_append_left left (z ∷ []) (pos 0) i (omega (arith, same))) (is.each i h on))
      (λ on. rw (get_or_at left z [] (pos 0) n same) le);
}

-- what holds of 0, and of f wherever it counts
pub made_all : (s : GridState) (f : ℕ → ℤ) (q : List ℤ) → IsMade s f q (classes_of s) → (P : ℤ → Type 0) → P (pos 0) → ((i : ℕ) → P (f i)) → All P q
made_all s f q is P none each =
    All-from_get_or P q (pos 0) (λ i h. subst P (sym (is.values i (omega (arith, is.each_class)))) (one (is_free s i) (f i) (each i)))
  where
    one : (b : Bool) (z : ℤ) → P z → P (cond b z (pos 0))
    one true z h = h
    one false z h = none

pub made_free : (s : GridState) (f : ℕ → ℤ) (q : List ℤ) (n : ℕ) → IsMade s f q n → (i : ℕ) → i < n → is_free s i ≡ true → at q i ≡ f i
made_free s f q n is i h free_i = is.values i h ∙ cond-true (is_free s i) (f i) (pos 0) free_i

pub sizes : (s : GridState) (q : List ℤ) → length q ≡ classes_of s → total_below (classes_of s) (λ i. nat_abs (at q i)) ≡ size_of q
sizes s q same = ap (λ (n : ℕ). total_below n (λ i. nat_abs (at q i))) (sym same) ∙ total_of_list nat_abs q (pos 0)

-- the right side of a barrier adds up to twice the susceptances
pub doubled_size : (s : GridState) (q : List ℤ) → IsMade s (doubled s) q (classes_of s) → size_of q ≡ 2 * total_susceptance_of s
doubled_size s q is =
    let whole = sizes s q is.each_class in
    let twice = total_below-combine (classes_of s) 2 0 (free_susceptance_of s) (λ i. 0) (λ i. nat_abs (at q i)) (λ i h. ap nat_abs (is.values i h) ∙ one (is_free s i) (susceptance_of s i)) in
    omega arith
  where
    one : (b : Bool) (k : ℕ) → nat_abs (cond b (pos (2 * k)) (pos 0)) ≡ 2 * cond b k 0 + 0 * 0
    one true k = omega arith
    one false k = omega arith

-- ---- parts
pub part_size : (s : GridState) (f : ℕ → ℤ) (p q : List ℤ) → IsMade s f q (classes_of s) → length p ≡ classes_of s → ((i : ℕ) → nat_abs (f i) ≤ nat_abs (at p i)) → size_of q ≤ size_of p
part_size s f p q is same each =
    let part = sizes s q is.each_class in
    let whole = sizes s p same in
    let less = total_below-le (classes_of s) (λ i. nat_abs (at q i)) (λ i. nat_abs (at p i)) (λ i h. let e = ap nat_abs (is.values i h) in let le = one (is_free s i) (f i) (nat_abs (at p i)) (each i) in omega arith) in
    omega arith
  where
    one : (b : Bool) (z : ℤ) (k : ℕ) → nat_abs z ≤ k → nat_abs (cond b z (pos 0)) ≤ k
    one true z k h = h
    one false z k h = omega arith

pub above_high : (z : ℤ) → pos 0 ≤ℤ above_zero z
above_high (pos n) = omega (arith, ints)
above_high (negsuc n) = omega (arith, ints)

pub above_small : (z : ℤ) → nat_abs (above_zero z) ≤ nat_abs z
above_small (pos n) = omega arith
above_small (negsuc n) = omega arith

pub below_high : (z : ℤ) → pos 0 ≤ℤ below_zero z
below_high (pos n) = omega (arith, ints)
below_high (negsuc n) = omega (arith, ints)

pub below_small : (z : ℤ) → nat_abs (below_zero z) ≤ nat_abs z
below_small (pos n) = omega arith
below_small (negsuc n) = omega arith
