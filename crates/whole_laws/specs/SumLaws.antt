-- Laws, which are proved: nobody need believe them.
-- Laws of the sums of whole numbers.
use Rattle.std.proofs.Common.{◌≡◌, ℕ, zero, suc, ◌+◌, ◌-◌, ◌*◌, ◌<◌, ◌≤◌, inl, inr, ℤ, pos, negsuc, neg_ℤ, ◌+ℤ◌, ◌-ℤ◌, ◌*ℤ◌, List, [], ◌∷◌, length, take, get_or, refl, sym, subst, ap, ◌∙◌, arith, add-one, mul-le-mul}
use Rattle.std.specs.Prelude.{◌≤ℤ◌}
use Rattle.std.specs.List.{All}
use Rattle.std.proofs.lemmas.List.Elements.{All-head, All-tail}
use Rattle.std.proofs.lemmas.Bool.{cases_eq}
use Rattle.std.proofs.lemmas.Int.{ints}
use borrow.Author.Differences.{up}
use Rattle.whole_laws.specs.Sums.{sum_below, sum_over, total_below, IsWithin}
use Rattle.whole_laws.specs.Ring.{*ℤ-add, add-*ℤ, down-nonnegative}

-- the size of a product
pub within_times : (m n : ℕ) (a b : ℤ) → IsWithin m a → IsWithin n b → IsWithin (m * n) (a *ℤ b)
within_times m n (pos a) (pos b) h k =
    let p : a ≤ m = omega (arith, ints, h.high) in
    let q : b ≤ n = omega (arith, ints, k.high) in
    let r = mul-le-mul p q in
    record { low = omega (arith, ints); high = omega (arith, ints) }
within_times m n (pos a) (negsuc b) h k =
    let p : a ≤ m = omega (arith, ints, h.high) in
    let q : suc b ≤ n = omega (arith, ints, k.low) in
    let r = mul-le-mul p q in
    record { low = omega (arith, ints); high = omega (arith, ints) }
within_times m n (negsuc a) (pos b) h k =
    let p : suc a ≤ m = omega (arith, ints, h.low) in
    let q : b ≤ n = omega (arith, ints, k.high) in
    let r = mul-le-mul p q in
    record { low = omega (arith, ints); high = omega (arith, ints) }
within_times m n (negsuc a) (negsuc b) h k =
    let p : suc a ≤ m = omega (arith, ints, h.low) in
    let q : suc b ≤ n = omega (arith, ints, k.low) in
    let r = mul-le-mul p q in
    record { low = omega (arith, ints); high = omega (arith, ints) }

pub within_sum : (m n : ℕ) (a b : ℤ) → IsWithin m a → IsWithin n b → IsWithin (m + n) (a +ℤ b)
within_sum m n a b h k = record { low = omega (arith, ints); high = omega (arith, ints) }

-- ---- sums over 0, 1, .., n - 1
pub sum_below-more : (n : ℕ) (f : ℕ → ℤ) → sum_below (n + 1) f ≡ sum_below n f +ℤ f n
sum_below-more n f = ap (λ (k : ℕ). sum_below k f) (add-one n)

pub sum_below-add : (n : ℕ) (f g : ℕ → ℤ) → sum_below n (λ z. f z +ℤ g z) ≡ sum_below n f +ℤ sum_below n g
sum_below-add zero f g = refl
sum_below-add (suc n) f g = omega (arith, ints, sum_below-add n f g)

pub sum_below-minus : (n : ℕ) (f g : ℕ → ℤ) → sum_below n (λ z. f z -ℤ g z) ≡ sum_below n f -ℤ sum_below n g
sum_below-minus zero f g = refl
sum_below-minus (suc n) f g = omega (arith, ints, sum_below-minus n f g)

pub sum_below-times : (n : ℕ) (k : ℤ) (f : ℕ → ℤ) → sum_below n (λ z. k *ℤ f z) ≡ k *ℤ sum_below n f
sum_below-times zero k f = omega (arith, ints)
sum_below-times (suc n) k f = omega (arith, ints, sum_below-times n k f, *ℤ-add k (sum_below n f) (f n))

pub sum_below-same : (n : ℕ) (f g : ℕ → ℤ) → ((z : ℕ) → z < n → f z ≡ g z) → sum_below n f ≡ sum_below n g
sum_below-same zero f g h = refl
sum_below-same (suc n) f g h = omega (arith, ints, sum_below-same n f g (λ z l. h z (omega arith)), h n (omega arith))

pub sum_below-mono : (n : ℕ) (f g : ℕ → ℤ) → ((z : ℕ) → z < n → f z ≤ℤ g z) → sum_below n f ≤ℤ sum_below n g
sum_below-mono zero f g h = omega (arith, ints)
sum_below-mono (suc n) f g h = omega (arith, ints, sum_below-mono n f g (λ z l. h z (omega arith)), h n (omega arith))

pub sum_below-within : (n m : ℕ) (f : ℕ → ℤ) → ((z : ℕ) → z < n → IsWithin m (f z)) → IsWithin (n * m) (sum_below n f)
sum_below-within zero m f h = record { low = omega (arith, ints); high = omega (arith, ints) }
sum_below-within (suc n) m f h =
    let s = sum_below-within n m f (λ z l. h z (omega arith)) in
    let t = h n (omega arith) in
    record { low = omega (arith, ints, s.low, t.low); high = omega (arith, ints, s.high, t.high) }

-- ---- sums over a list
pub sum_over-more : {X : Type 0} (f : X → ℤ) (xs : List X) (i : ℕ) (d : X) → i < length xs → sum_over f (take (i + 1) xs) ≡ sum_over f (take i xs) +ℤ f (get_or xs i d)
sum_over-more f [] i d h = absurd (omega arith)
sum_over-more f (x ∷ xs) zero d h = omega (arith, ints)
sum_over-more f (x ∷ xs) (suc i) d h =
    let e : suc i + 1 ≡ suc (i + 1) = omega arith in
    ap (λ (k : ℕ). sum_over f (take k (x ∷ xs))) e ∙ omega (arith, ints, sum_over-more f xs i d (omega arith))

pub sum_over-times : {X : Type 0} (f : X → ℤ) (k : ℤ) (xs : List X) → sum_over (λ x. f x *ℤ k) xs ≡ sum_over f xs *ℤ k
sum_over-times f k [] = omega (arith, ints)
sum_over-times f k (x ∷ xs) = omega (arith, ints, sum_over-times f k xs, add-*ℤ (f x) (sum_over f xs) k)

pub sum_over-same : {X : Type 0} (f g : X → ℤ) (xs : List X) → ((x : X) → f x ≡ g x) → sum_over f xs ≡ sum_over g xs
sum_over-same f g [] h = refl
sum_over-same f g (x ∷ xs) h = omega (arith, ints, h x, sum_over-same f g xs h)

pub sum_over-mono : {X : Type 0} (f g : X → ℤ) (xs : List X) → All (λ x. f x ≤ℤ g x) xs → sum_over f xs ≤ℤ sum_over g xs
sum_over-mono f g [] h = omega (arith, ints)
sum_over-mono f g (x ∷ xs) h = omega (arith, ints, All-head (λ y. f y ≤ℤ g y) x xs h, sum_over-mono f g xs (All-tail (λ y. f y ≤ℤ g y) x xs h))

-- a sum of numbers that are not negative
pub sum_over-nonnegative : {X : Type 0} (f : X → ℤ) (xs : List X) → All (λ x. pos 0 ≤ℤ f x) xs → pos 0 ≤ℤ sum_over f xs
sum_over-nonnegative f [] h = omega (arith, ints)
sum_over-nonnegative f (x ∷ xs) h = omega (arith, ints, All-head (λ y. pos 0 ≤ℤ f y) x xs h, sum_over-nonnegative f xs (All-tail (λ y. pos 0 ≤ℤ f y) x xs h))

-- is at least the sum of its first ones
pub sum_over-take : {X : Type 0} (f : X → ℤ) (xs : List X) (i : ℕ) → All (λ x. pos 0 ≤ℤ f x) xs → sum_over f (take i xs) ≤ℤ sum_over f xs
sum_over-take f [] zero h = omega (arith, ints)
sum_over-take f [] (suc i) h = omega (arith, ints)
sum_over-take f (x ∷ xs) zero h = sum_over-nonnegative f (x ∷ xs) h
sum_over-take f (x ∷ xs) (suc i) h = omega (arith, ints, sum_over-take f xs i (All-tail (λ y. pos 0 ≤ℤ f y) x xs h))

-- a sum with weights that are not negative, and add up to at most t, of numbers within m
pub sum_over-weighted : {X : Type 0} (v g : X → ℤ) (m : ℕ) (xs : List X) (t : ℕ) → All (λ x. pos 0 ≤ℤ v x) xs → All (λ x. IsWithin m (g x)) xs → sum_over v xs ≤ℤ pos t → IsWithin (t * m) (sum_over (λ x. v x *ℤ g x) xs)
sum_over-weighted v g m [] t p q h = record { low = omega (arith, ints); high = omega (arith, ints) }
sum_over-weighted v g m (x ∷ xs) t p q h =
    let first = All-head (λ y. pos 0 ≤ℤ v y) x xs p in
    let others = All-tail (λ y. pos 0 ≤ℤ v y) x xs p in
    let none_below = sum_over-nonnegative v xs others in
    let n = up (v x) in
    let none = down-nonnegative (v x) first in
    let size : IsWithin n (v x) = record { low = omega (arith, ints); high = omega (arith, ints) } in
    let here = within_times n m (v x) (g x) size (All-head (λ y. IsWithin m (g y)) x xs q) in
    let rest = sum_over-weighted v g m xs (t - n) others (All-tail (λ y. IsWithin m (g y)) x xs q) (omega (arith, ints)) in
    let whole : n + (t - n) ≡ t = omega (arith, ints) in
    let parts : n * m + (t - n) * m ≡ t * m = omega (arith, ap (λ (k : ℕ). k * m) whole) in
    let both = within_sum (n * m) ((t - n) * m) (v x *ℤ g x) (sum_over (λ y. v y *ℤ g y) xs) here rest in
    subst (λ (k : ℕ). IsWithin k ((v x *ℤ g x) +ℤ sum_over (λ y. v y *ℤ g y) xs)) parts both

-- the sums over places and over a list change places
pub sum_below-zero : (n : ℕ) → sum_below n (λ z. pos 0) ≡ pos 0
sum_below-zero zero = refl
sum_below-zero (suc n) = omega (arith, ints, sum_below-zero n)

pub sum_below-sum_over : {X : Type 0} (n : ℕ) (g : X → ℕ → ℤ) (xs : List X) → sum_below n (λ z. sum_over (λ m. g m z) xs) ≡ sum_over (λ m. sum_below n (g m)) xs
sum_below-sum_over n g [] = sum_below-zero n
sum_below-sum_over n g (x ∷ xs) = sum_below-add n (g x) (λ z. sum_over (λ m. g m z) xs) ∙ ap (λ (s : ℤ). sum_below n (g x) +ℤ s) (sum_below-sum_over n g xs)

-- ---- sums by what holds of each term
pub sum_below-low : (n : ℕ) (f : ℕ → ℤ) → ((j : ℕ) → j < n → f j ≤ℤ pos 0) → sum_below n f ≤ℤ pos 0
sum_below-low zero f low = omega (arith, ints)
sum_below-low (suc n) f low =
    let rest = sum_below-low n f (λ j h. low j (omega arith)) in
    let this = low n (omega arith) in
    omega (arith, ints)

at_last : (n : ℕ) (f : ℕ → ℤ) (k : ℕ) → k ≡ n → sum_below n f ≤ℤ pos 0 → (sum_below n f +ℤ f n) ≤ℤ f k
at_last n f k e rest = subst (λ (i : ℕ). (sum_below n f +ℤ f n) ≤ℤ f i) (sym e) (omega (arith, ints))

-- where no term is above 0, each is at least the sum
pub sum_below-le-term : (n : ℕ) (f : ℕ → ℤ) → ((j : ℕ) → j < n → f j ≤ℤ pos 0) → (k : ℕ) → k < n → sum_below n f ≤ℤ f k
sum_below-le-term zero f low k h = absurd (omega arith)
sum_below-le-term (suc n) f low k h =
    let last = low n (omega arith) in
    let before : (j : ℕ) → j < n → f j ≤ℤ pos 0 = λ j b. low j (omega arith) in
    elim (cases_eq k n) [
      | inl e ↦ at_last n f k e (sum_below-low n f before)
      | inr ne ↦ let rest = sum_below-le-term n f before k (omega arith) in omega (arith, ints)
    ]

pub sum_below-high : (n : ℕ) (f : ℕ → ℤ) → ((j : ℕ) → j < n → pos 0 ≤ℤ f j) → pos 0 ≤ℤ sum_below n f
sum_below-high zero f high = omega (arith, ints)
sum_below-high (suc n) f high =
    let rest = sum_below-high n f (λ j h. high j (omega arith)) in
    let this = high n (omega arith) in
    omega (arith, ints)

at_last_high : (n : ℕ) (f : ℕ → ℤ) (k : ℕ) → k ≡ n → pos 0 ≤ℤ sum_below n f → f k ≤ℤ (sum_below n f +ℤ f n)
at_last_high n f k e rest = subst (λ (i : ℕ). f i ≤ℤ (sum_below n f +ℤ f n)) (sym e) (omega (arith, ints))

-- where no term is below 0, each is at most the sum
pub term-le-sum_below : (n : ℕ) (f : ℕ → ℤ) → ((j : ℕ) → j < n → pos 0 ≤ℤ f j) → (k : ℕ) → k < n → f k ≤ℤ sum_below n f
term-le-sum_below zero f high k h = absurd (omega arith)
term-le-sum_below (suc n) f high k h =
    let last = high n (omega arith) in
    let before : (j : ℕ) → j < n → pos 0 ≤ℤ f j = λ j b. high j (omega arith) in
    elim (cases_eq k n) [
      | inl e ↦ at_last_high n f k e (sum_below-high n f before)
      | inr ne ↦ let rest = term-le-sum_below n f before k (omega arith) in omega (arith, ints)
    ]

pub sum_below-add_each : (n : ℕ) (f g h : ℕ → ℤ) → ((j : ℕ) → j < n → h j ≡ f j +ℤ g j) → sum_below n h ≡ sum_below n f +ℤ sum_below n g
sum_below-add_each zero f g h e = refl
sum_below-add_each (suc n) f g h e =
    let rest = sum_below-add_each n f g h (λ j b. e j (omega arith)) in
    let last = e n (omega arith) in
    omega (arith, ints)

pub sum_below-zero_each : (n : ℕ) (f : ℕ → ℤ) → ((j : ℕ) → j < n → f j ≡ pos 0) → sum_below n f ≡ pos 0
sum_below-zero_each zero f e = refl
sum_below-zero_each (suc n) f e =
    let rest = sum_below-zero_each n f (λ j b. e j (omega arith)) in
    let last = e n (omega arith) in
    omega (arith, ints)

pub sum_below-neg_each : (n : ℕ) (f g : ℕ → ℤ) → ((j : ℕ) → j < n → g j ≡ neg_ℤ (f j)) → sum_below n g ≡ neg_ℤ (sum_below n f)
sum_below-neg_each zero f g e = refl
sum_below-neg_each (suc n) f g e =
    let rest = sum_below-neg_each n f g (λ j b. e j (omega arith)) in
    let last = e n (omega arith) in
    omega (arith, ints)

-- a sum of naturals
pub sum_below-pos : (n : ℕ) (f : ℕ → ℕ) → sum_below n (λ j. pos (f j)) ≡ pos (total_below n f)
sum_below-pos zero f = refl
sum_below-pos (suc n) f = let rest = sum_below-pos n f in omega (arith, ints)

-- a table whose turned entries cancel sums to 0
pub sum_below-cancel : (n : ℕ) (f : ℕ → ℕ → ℤ) → ((a b : ℕ) → f a b ≡ neg_ℤ (f b a)) → sum_below n (λ a. sum_below n (f a)) ≡ pos 0
sum_below-cancel zero f e = refl
sum_below-cancel (suc n) f e =
    let rest = sum_below-cancel n f e in
    let parts = sum_below-add_each n (λ a. sum_below n (f a)) (λ a. f a n) (λ a. sum_below n (f a) +ℤ f a n) (λ j b. refl) in
    let turned = sum_below-neg_each n (λ a. f a n) (f n) (λ j b. e n j) in
    let diagonal = e n n in
    omega (arith, ints)

-- both orders of a double sum
pub sum_below-swap : (n m : ℕ) (f : ℕ → ℕ → ℤ) → sum_below n (λ a. sum_below m (λ b. f a b)) ≡ sum_below m (λ b. sum_below n (λ a. f a b))
sum_below-swap zero m f = sym (sum_below-zero_each m (λ b. pos 0) (λ j b. refl))
sum_below-swap (suc n) m f =
    ap (λ (z : ℤ). z +ℤ sum_below m (f n)) (sum_below-swap n m f)
    ∙ sym (sum_below-add_each m (λ b. sum_below n (λ a. f a b)) (f n) (λ b. sum_below n (λ a. f a b) +ℤ f n b) (λ j b. refl))
