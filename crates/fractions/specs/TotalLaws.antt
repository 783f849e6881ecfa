-- Laws, which are proved: nobody need believe them.
-- The laws of sums of fractions over lists.
use Rattle.std.proofs.Common.{ℤ, pos, ◌<ℤ◌, List, [], ◌∷◌, Bool, true, false, cond, not, refl}
use Rattle.std.specs.List.{All, filter}
use Rattle.std.proofs.lemmas.List.Elements.{All-head, All-tail}
use Rattle.whole_laws.specs.Ring.{ring}
use Rattle.fractions.specs.Fractions.{Fraction, whole, plus, times, over, minus, Same, AtMost, total}
use Rattle.fractions.specs.FractionLaws.{Same_refl, Same_sym, Same_trans, Same-plus, plus-plus, plus_assoc, plus_left_comm, zero-plus, times-plus, over-plus, minus-minus, AtMost_refl, AtMost-plus}

pub Same-total : {A : Type 0} (f g : A → Fraction) (xs : List A) → All (λ x. Same (f x) (g x)) xs → Same (total f xs) (total g xs)
Same-total f g [] h = Same_refl _
Same-total f g (x ∷ xs) h = Same-plus (All-head (λ y. Same (f y) (g y)) x xs h) (Same-total f g xs (All-tail (λ y. Same (f y) (g y)) x xs h))

pub AtMost-total : {A : Type 0} (f g : A → Fraction) (xs : List A) → All (λ x. AtMost (f x) (g x)) xs → AtMost (total f xs) (total g xs)
AtMost-total f g [] h = AtMost_refl _
AtMost-total f g (x ∷ xs) h = AtMost-plus (All-head (λ y. AtMost (f y) (g y)) x xs h) (AtMost-total f g xs (All-tail (λ y. AtMost (f y) (g y)) x xs h))

pub total-plus : {A : Type 0} (f g : A → Fraction) (xs : List A) → Same (total (λ x. plus (f x) (g x)) xs) (plus (total f xs) (total g xs))
total-plus f g [] = record { same = refl }
total-plus f g (x ∷ xs) = Same_trans (Same-plus (Same_refl _) (total-plus f g xs)) (plus-plus (f x) (g x) (total f xs) (total g xs))

pub total-minus : {A : Type 0} (f g : A → Fraction) (xs : List A) → Same (total (λ x. minus (f x) (g x)) xs) (minus (total f xs) (total g xs))
total-minus f g [] = record { same = refl }
total-minus f g (x ∷ xs) = Same_trans (Same-plus (Same_refl _) (total-minus f g xs)) (minus-minus (f x) (g x) (total f xs) (total g xs))

pub total-times : {A : Type 0} (k : ℤ) (f : A → Fraction) (xs : List A) → Same (total (λ x. times k (f x)) xs) (times k (total f xs))
total-times k f [] = record { same = simp ring }
total-times k f (x ∷ xs) = Same_trans (Same-plus (Same_refl _) (total-times k f xs)) (Same_sym (times-plus k (f x) (total f xs)))

pub total-over : {A : Type 0} (k : ℤ) (h : pos 0 <ℤ k) (f : A → Fraction) (xs : List A) → Same (total (λ x. over (f x) k h) xs) (over (total f xs) k h)
total-over k h f [] = record { same = simp ring }
total-over k h f (x ∷ xs) = Same_trans (Same-plus (Same_refl _) (total-over k h f xs)) (Same_sym (over-plus (f x) (total f xs) k h))

pub total-zero : {A : Type 0} (xs : List A) → Same (total (λ x. whole (pos 0)) xs) (whole (pos 0))
total-zero [] = Same_refl _
total-zero (x ∷ xs) = Same_trans (zero-plus _) (total-zero xs)

-- two sums change places
pub total-total : {A B : Type 0} (f : A → B → Fraction) (xs : List A) (ys : List B) → Same (total (λ x. total (f x) ys) xs) (total (λ y. total (λ x. f x y) xs) ys)
total-total f [] ys = Same_sym (total-zero ys)
total-total f (x ∷ xs) ys = Same_trans (Same-plus (Same_refl _) (total-total f xs ys)) (Same_sym (total-plus (f x) (λ y. total (λ x. f x y) xs) ys))

-- a sum is the sum over the items that pass a test and the sum over those that do not
pub total-filter : {A : Type 0} (f : A → Fraction) (p : A → Bool) (xs : List A) → Same (total f xs) (plus (total f (filter p xs)) (total f (filter (λ x. not (p x)) xs)))
total-filter f p [] = record { same = refl }
total-filter f p (x ∷ xs) = by_test (p x) (total-filter f p xs)
  where
    by_test : (t : Bool) → Same (total f xs) (plus (total f (filter p xs)) (total f (filter (λ y. not (p y)) xs)))
        → Same (plus (f x) (total f xs)) (plus (total f (cond t (x ∷ filter p xs) (filter p xs))) (total f (cond (not t) (x ∷ filter (λ y. not (p y)) xs) (filter (λ y. not (p y)) xs))))
    by_test true h = Same_trans (Same-plus (Same_refl (f x)) h) (Same_sym (plus_assoc (f x) (total f (filter p xs)) (total f (filter (λ y. not (p y)) xs))))
    by_test false h = Same_trans (Same-plus (Same_refl (f x)) h) (plus_left_comm (f x) (total f (filter p xs)) (total f (filter (λ y. not (p y)) xs)))
