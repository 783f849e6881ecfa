-- Laws, which are proved: nobody need believe them.
-- Laws of the sums of naturals.
use Rattle.std.proofs.Common.{◌≡◌, ℕ, zero, suc, ◌+◌, ◌*◌, ◌<◌, ◌≤◌, inl, inr, arith, refl, sym, ap₂, subst}
use Rattle.std.proofs.lemmas.Bool.{cases_eq}
use Rattle.whole_laws.specs.Sums.{total_below}

pub total_below-same : (n : ℕ) (f g : ℕ → ℕ) → ((j : ℕ) → j < n → f j ≡ g j) → total_below n f ≡ total_below n g
total_below-same zero f g e = refl
total_below-same (suc n) f g e = ap₂ ◌+◌ (total_below-same n f g (λ j h. e j (omega arith))) (e n (omega arith))

-- the sum of s times one term and c times another
pub total_below-combine : (n : ℕ) (s c : ℕ) (f g h : ℕ → ℕ) → ((j : ℕ) → j < n → h j ≡ s * f j + c * g j)
    → total_below n h ≡ s * total_below n f + c * total_below n g
total_below-combine zero s c f g h e = omega arith
total_below-combine (suc n) s c f g h e =
    let rest = total_below-combine n s c f g h (λ j b. e j (omega arith)) in
    let last = e n (omega arith) in
    omega arith

pub term-le-total_below : (n : ℕ) (f : ℕ → ℕ) (k : ℕ) → k < n → f k ≤ total_below n f
term-le-total_below zero f k h = absurd (omega arith)
term-le-total_below (suc n) f k h =
    elim (cases_eq k n) [
      | inl e ↦ subst (λ (i : ℕ). f i ≤ total_below n f + f n) (sym e) (omega arith)
      | inr ne ↦ let rest = term-le-total_below n f k (omega arith) in omega arith
    ]

pub total_below-le : (n : ℕ) (f g : ℕ → ℕ) → ((j : ℕ) → j < n → f j ≤ g j) → total_below n f ≤ total_below n g
total_below-le zero f g e = omega arith
total_below-le (suc n) f g e =
    let rest = total_below-le n f g (λ j b. e j (omega arith)) in
    let last = e n (omega arith) in
    omega arith

last_below : (n : ℕ) (f g : ℕ → ℕ) (k : ℕ) → k ≡ n → total_below n f ≤ total_below n g → f k < g k → total_below n f + f n < total_below n g + g n
last_below n f g k e rest less = let less' : f n < g n = subst (λ (i : ℕ). f i < g i) e less in omega arith

-- one term that is smaller makes the sum smaller
pub total_below-lt : (n : ℕ) (f g : ℕ → ℕ) → ((j : ℕ) → j < n → f j ≤ g j) → (k : ℕ) → k < n → f k < g k → total_below n f < total_below n g
total_below-lt zero f g e k h less = absurd (omega arith)
total_below-lt (suc n) f g e k h less =
    let last = e n (omega arith) in
    let before : (j : ℕ) → j < n → f j ≤ g j = λ j b. e j (omega arith) in
    elim (cases_eq k n) [
      | inl same ↦ last_below n f g k same (total_below-le n f g before) less
      | inr ne ↦ let rest = total_below-lt n f g before k (omega arith) less in omega arith
    ]

-- a sum of terms of at most 1
pub total_below-ones : (n : ℕ) (f : ℕ → ℕ) → ((j : ℕ) → f j ≤ 1) → total_below n f ≤ n
total_below-ones zero f e = omega arith
total_below-ones (suc n) f e =
    let rest = total_below-ones n f e in
    let last = e n in
    omega arith
