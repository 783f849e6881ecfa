-- What holds of each item of a list, and of the items of each of its groups.
use Rattle.std.proofs.Common.{◌≡◌, ℕ, ◌<◌, Bool, true, false, cond, List, [], ◌∷◌, length, map, All, refl, sym, ap, subst, ◌∙◌, arith, inl, inr}
use Rattle.std.specs.Prelude.{◌==◌, ◌≢◌, ◌⊎◌}
use Rattle.std.specs.List.{AllZip}
use Rattle.std.proofs.lemmas.Bool.{eq-eqb, ne_eqb, cases_eq}
use Rattle.std.proofs.lemmas.List.Elements.{All-cons, All-head, All-nil, All-tail}
use Rattle.number_groups.specs.Groups.{beside}
use Rattle.number_groups.proofs.GroupLaws.{beside_cons}

-- what holds of each item with the number beside it holds of each item of a group with the group's number
pub beside_all : {A : Type 0} (P : ℕ → A → Type 0) (f : A → ℕ) (k : ℕ) (xs : List A) → All (λ x. P (f x) x) xs → All (P k) (beside k (map f xs) xs)
beside_all P f k [] h = All-nil (P k)
beside_all {A} P f k (x ∷ xs) h =
    subst (All (P k)) (sym (beside_cons k (f x) (map f xs) x xs))
    (by_case (beside_all P f k xs (All-tail (λ y. P (f y) y) x xs h)) (cases_eq (f x) k))
  where
    by_case : All (P k) (beside k (map f xs) xs) → (f x ≡ k) ⊎ (f x ≢ k) → All (P k) (cond (f x == k) (x ∷ beside k (map f xs) xs) (beside k (map f xs) xs))
    by_case rest (inl e) =
        subst (λ b. All (P k) (cond b (x ∷ beside k (map f xs) xs) (beside k (map f xs) xs))) (sym (eq-eqb (f x) k e))
        (All-cons (P k) x (beside k (map f xs) xs) (subst (λ (n : ℕ). P n x) e (All-head (λ y. P (f y) y) x xs h)) rest)
    by_case rest (inr d) =
        subst (λ b. All (P k) (cond b (x ∷ beside k (map f xs) xs) (beside k (map f xs) xs))) (sym (ne_eqb (f x) k d)) rest

-- what holds in each group of two lists, item by item, holds of the lists
pub beside_joined : {A B : Type 0} (R : ℕ → A → B → Type 0) (f : A → ℕ) (count : ℕ) (xs : List A) (ys : List B) → length xs ≡ length ys → All (λ x. f x < count) xs
    → ((k : ℕ) → k < count → AllZip (R k) (beside k (map f xs) xs) (beside k (map f xs) ys)) → AllZip (λ x y. R (f x) x y) xs ys
beside_joined R f count [] [] long below each = tt
beside_joined R f count [] (y ∷ ys) long below each = absurd (omega arith)
beside_joined R f count (x ∷ xs) [] long below each = absurd (omega arith)
beside_joined {A} {B} R f count (x ∷ xs) (y ∷ ys) long below each = (
  head (f x == f x) (eq-eqb (f x) (f x) refl) (at (f x) (All-head (λ z. f z < count) x xs below)),
  beside_joined R f count xs ys (omega arith) (All-tail (λ z. f z < count) x xs below) (λ k b. tail k (f x == k) (at k b)),
)
  where
    left : ℕ → List A
    left k = beside k (map f xs) xs

    right : ℕ → List B
    right k = beside k (map f xs) ys

    at : (k : ℕ) → k < count → AllZip (R k) (cond (f x == k) (x ∷ left k) (left k)) (cond (f x == k) (y ∷ right k) (right k))
    at k b =
        subst (λ (ls : List A). AllZip (R k) ls (cond (f x == k) (y ∷ right k) (right k))) (beside_cons k (f x) (map f xs) x xs)
        (subst (λ (rs : List B). AllZip (R k) (beside k (map f (x ∷ xs)) (x ∷ xs)) rs) (beside_cons k (f x) (map f xs) y ys) (each k b))

    head : (b : Bool) → b ≡ true → AllZip (R (f x)) (cond b (x ∷ left (f x)) (left (f x))) (cond b (y ∷ right (f x)) (right (f x))) → R (f x) x y
    head true e h = h.0
    head false e h = absurd (cc)

    tail : (k : ℕ) (b : Bool) → AllZip (R k) (cond b (x ∷ left k) (left k)) (cond b (y ∷ right k) (right k)) → AllZip (R k) (left k) (right k)
    tail k true h = h.1
    tail k false h = h
