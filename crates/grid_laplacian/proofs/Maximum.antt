-- A function whose Laplacian is at least 0 at the free classes is at least its least value at the others.
use Rattle.std.proofs.Common.{◌≡◌, ℕ, zero, suc, ◌<◌, ◌≤◌, inl, inr, Bool, true, false, ℤ, pos, ◌-ℤ◌, ◌*ℤ◌, ◌≤ℤ◌, ◌<ℤ◌, arith, mul-le-mul_left, sym, subst}
use Rattle.std.proofs.lemmas.Int.{ints, by_lt_z}
use Rattle.std.proofs.lemmas.Bool.{cases_eq, cases_Bool}
use lib.Signed.{le_z}
use borrow.Author.Differences.{up, down}
use Rattle.grid_laplacian.specs.Tables.{laplacian, IsGrounded}
use Rattle.whole_laws.specs.SumLaws.{sum_below-le-term}

-- a least value below n
pub least : (n : ℕ) (f : ℕ → ℤ) → (m : ℕ) × (m < suc n) × ((i : ℕ) → i < suc n → f m ≤ℤ f i)
least zero f = (0, omega arith, λ i h. only i (omega arith))
  where
    only : (i : ℕ) → i ≡ 0 → f 0 ≤ℤ f i
    only i e = subst (λ (k : ℕ). f 0 ≤ℤ f k) (sym e) (omega (arith, ints))
least (suc n) f = more (least n f)
  where
    keeps : (m : ℕ) → ((i : ℕ) → i < suc n → f m ≤ℤ f i) → f m ≤ℤ f (suc n) → (i : ℕ) → i < suc (suc n) → f m ≤ℤ f i
    keeps m before here i h = elim (cases_eq i (suc n)) [ inl e ↦ subst (λ (k : ℕ). f m ≤ℤ f k) (sym e) here | inr ne ↦ before i (omega arith) ]

    more : ((m : ℕ) × (m < suc n) × ((i : ℕ) → i < suc n → f m ≤ℤ f i)) → (m : ℕ) × (m < suc (suc n)) × ((i : ℕ) → i < suc (suc n) → f m ≤ℤ f i)
    more r =
        let low : r.0 < suc n = r.1 in
        by_lt_z (f (suc n)) (f r.0)
        (λ below. (suc n, omega arith, keeps (suc n) (λ i h. let value_there = r.2 i h in omega (arith, ints)) (omega (arith, ints))))
        (λ above. (r.0, omega arith, keeps r.0 r.2 above))

-- the classes at which f is at most the value of f at m
abbrev below_value : (ℕ → ℤ) → ℕ → ℕ → Bool
below_value f m j = le_z (f j) (f m)

-- a weight times a difference that is not positive
term_low : (w : ℕ) (x y : ℤ) → x ≤ℤ y → (pos w *ℤ (x -ℤ y)) ≤ℤ pos 0
term_low w x y h =
    let le : up (x -ℤ y) ≤ down (x -ℤ y) = omega (arith, ints) in
    let times = mul-le-mul_left w le in
    omega (arith, ints)

term_below : (w : ℕ) (x y : ℤ) → 0 < w → x <ℤ y → (pos w *ℤ (x -ℤ y)) <ℤ pos 0
term_below zero x y p h = absurd (omega arith)
term_below (suc w) x y p h =
    let lt : up (x -ℤ y) < down (x -ℤ y) = omega (arith, ints) in
    let le : up (x -ℤ y) ≤ down (x -ℤ y) = omega (arith) in
    let times = mul-le-mul_left w le in
    omega (arith, ints)

-- at a class whose value is least, with a positive weight to a larger value, the Laplacian is negative
sinks : (n : ℕ) (w : ℕ → ℕ → ℕ) (f : ℕ → ℤ) (a b : ℕ) → ((j : ℕ) → j < n → f a ≤ℤ f j) → b < n → 0 < w a b → f a <ℤ f b
    → laplacian n w f a <ℤ pos 0
sinks n w f a b low h p up =
    let whole = sum_below-le-term n (λ j. pos (w a j) *ℤ (f a -ℤ f j)) (λ j k. term_low (w a j) (f a) (f j) (low j k)) b h in
    let value_there = term_below (w a b) (f a) (f b) p up in
    omega (arith, ints)

pub maximum : (n : ℕ) (w : ℕ → ℕ → ℕ) (free : ℕ → Bool) → IsGrounded n w free → (f : ℕ → ℤ)
    → ((i : ℕ) → i < n → free i ≡ true → pos 0 ≤ℤ laplacian n w f i)
    → ((i : ℕ) → i < n → free i ≡ false → pos 0 ≤ℤ f i)
    → (i : ℕ) → i < n → pos 0 ≤ℤ f i
maximum zero w free grounded f inside edge i h = absurd (omega arith)
maximum (suc n) w free grounded f inside edge i h =
    let r = least n f in
    by_lt_z (f r.0) (pos 0)
    (λ negative.
    let none : (j : ℕ) → j < suc n → below_value f r.0 j ≡ true → free j ≡ true =
    λ j b s. elim (cases_Bool (free j)) [ inl t ↦ t | inr u ↦ let e = edge j b u in absurd (omega (arith, ints)) ] in
    let out = grounded (below_value f r.0) none r.0 r.1 (sym (let same : true ≡ le_z (f r.0) (f r.0) = omega (arith, ints) in same)) in
    let at_in = out.inside in
    let at_out = out.outside in
    let low : (j : ℕ) → j < suc n → f out.inner ≤ℤ f j = λ j b. let least_j = r.2 j b in omega (arith, ints) in
    let bad = sinks (suc n) w f out.inner out.outer low out.outer_below out.joined (omega (arith, ints)) in
    let good = inside out.inner out.inner_below (none out.inner out.inner_below at_in) in
    absurd (omega (arith, ints)))
    (λ fine. let value_there = r.2 i h in omega (arith, ints))
