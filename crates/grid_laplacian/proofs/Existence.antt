-- For each right side there is a solution, and one denominator serves all right sides.
use Rattle.std.proofs.Common.{◌≡◌, ℕ, zero, suc, ◌+◌, ◌*◌, ◌<◌, inl, inr, Bool, true, false, cond, ◌&&◌, ℤ, pos, ◌+ℤ◌, ◌-ℤ◌, ◌*ℤ◌, arith, refl, ap, ◌∙◌}
use Rattle.std.proofs.lemmas.Int.{ints}
use Rattle.std.proofs.lemmas.Bool.{cases_Bool, both_ways, cond-true, cond-false, and_parts, and_from, and_cases}
use borrow.Author.Differences.{up, down}
use Rattle.whole_laws.specs.Sums.{total_below, sum_below}
use Rattle.grid_laplacian.specs.Tables.{IsGrounded, SolvesTable}
use Rattle.whole_laws.specs.TotalLaws.{total_below-same, total_below-combine, term-le-total_below}
use Rattle.grid_laplacian.proofs.Drained.{IsDrained, IsSolution, existence}

-- ---- the classes that are not free as the ground
abbrev between : (ℕ → ℕ → ℕ) → (ℕ → Bool) → ℕ → ℕ → ℕ
between w free i j = cond (free i) (cond (free j) (w i j) 0) 0

abbrev out_of : (ℕ → ℕ → ℕ) → (ℕ → Bool) → ℕ → ℕ → ℕ
out_of w free i j = cond (free j) 0 (w i j)

abbrev ground : ℕ → (ℕ → ℕ → ℕ) → (ℕ → Bool) → ℕ → ℕ
ground n w free i = cond (free i) (total_below n (out_of w free i)) 1

abbrev source : (ℕ → Bool) → (ℕ → ℕ) → ℕ → ℕ
source free p i = cond (free i) (p i) 0

drained : (n : ℕ) (w : ℕ → ℕ → ℕ) (free : ℕ → Bool) → IsGrounded n w free → IsDrained n (between w free) (ground n w free)
drained n w free grounded set i h s =
    elim (cases_Bool (free i)) [
      | inr u ↦ record { from = i; below = h; inside = s; way = inl (let e = cond-false (free i) (total_below n (out_of w free i)) 1 u in omega arith) }
      | inl is ↦
          let out = grounded (λ j. set j && free j) (λ j b e. (and_parts (set j) (free j) e).1) i h (and_from (set i) (free i) s is) in
          let a = out.inner in
          let b = out.outer in
          let both = and_parts (set a) (free a) out.inside in
          let joined = out.joined in
          elim (cases_Bool (free b)) [
            | inl v ↦
                record {
                  from = a;
                  below = out.inner_below;
                  inside = both.0;
                  way = inr (
                    b,
                    out.outer_below,
                    elim (and_cases (set b) (free b) out.outside) [ inl e ↦ e | inr e ↦ absurd (both_ways (free b) e v) ],
                    (let e = cond-true (free a) (cond (free b) (w a b) 0) 0 both.1 ∙ cond-true (free b) (w a b) 0 v in omega arith),
                  );
                }
            | inr u ↦
                record {
                  from = a;
                  below = out.inner_below;
                  inside = both.0;
                  way = inl (
                      let part = term-le-total_below n (out_of w free a) b out.outer_below in
                      let e = cond-false (free b) 0 (w a b) u in
                      let e' = cond-true (free a) (total_below n (out_of w free a)) 1 both.1 in
                      omega arith);
                }
          ]
    ]

-- a solution over naturals
record Balances (n : ℕ) (w : ℕ → ℕ → ℕ) (free : ℕ → Bool) (p t : ℕ → ℕ) (d : ℕ) : Type 0 where
  fixed : (i : ℕ) → i < n → free i ≡ false → t i ≡ 0
  balanced : (i : ℕ) → i < n → free i ≡ true → total_below n (w i) * t i ≡ total_below n (λ j. w i j * t j) + d * p i

nothing : (n : ℕ) (f : ℕ → ℕ) → ((j : ℕ) → j < n → f j ≡ 0) → total_below n f ≡ 0
nothing zero f e = refl
nothing (suc n) f e = let rest = nothing n f (λ j h. e j (omega arith)) in let last = e n (omega arith) in omega arith

only_zero : (g k t f d s : ℕ) → g ≡ 1 → f ≡ 0 → s ≡ 0 → (g + k) * t ≡ f + d * s → t ≡ 0
only_zero g k t f d s e e' e'' h =
    let h' : (1 + k) * t ≡ 0 + d * 0 = rw (e, e', e'') at h in
    omega (arith, h')

fixed_of : (n : ℕ) (w : ℕ → ℕ → ℕ) (free : ℕ → Bool) (p t : ℕ → ℕ) (d : ℕ) → IsSolution n (between w free) (ground n w free) (source free p) t d
    → (i : ℕ) → i < n → free i ≡ false → t i ≡ 0
fixed_of n w free p t d sol i h u =
    only_zero (ground n w free i) (total_below n (between w free i)) (t i) (total_below n (λ j. between w free i j * t j)) d (source free p i)
    (cond-false (free i) (total_below n (out_of w free i)) 1 u)
    (nothing n (λ j. between w free i j * t j) (λ j b. ap (λ k. k * t j) (cond-false (free i) (cond (free j) (w i j) 0) 0 u) ∙ omega arith))
    (cond-false (free i) (p i) 0 u)
    (sol.balance i h)

split : (w : ℕ → ℕ → ℕ) (free : ℕ → Bool) (i j : ℕ) → free i ≡ true → w i j ≡ 1 * out_of w free i j + 1 * between w free i j
split w free i j is =
    let outer = cond-true (free i) (cond (free j) (w i j) 0) 0 is in
    elim (cases_Bool (free j)) [
      | inl v ↦ let e = cond-true (free j) 0 (w i j) v in let e' = cond-true (free j) (w i j) 0 v in omega arith
      | inr u ↦ let e = cond-false (free j) 0 (w i j) u in let e' = cond-false (free j) (w i j) 0 u in omega arith
    ]

same_flow : (n : ℕ) (w : ℕ → ℕ → ℕ) (free : ℕ → Bool) (t : ℕ → ℕ) (i j : ℕ) → free i ≡ true → (free j ≡ false → t j ≡ 0) → between w free i j * t j ≡ w i j * t j
same_flow n w free t i j is none =
    let outer = cond-true (free i) (cond (free j) (w i j) 0) 0 is in
    elim (cases_Bool (free j)) [
      | inl v ↦ ap (λ k. k * t j) (outer ∙ cond-true (free j) (w i j) 0 v)
      | inr u ↦ rw (none u) (omega arith)
    ]

in_free : (g k x t f f' d s p : ℕ) → g + k ≡ x → f ≡ f' → s ≡ p → (g + k) * t ≡ f + d * s → x * t ≡ f' + d * p
in_free g k x t f f' d s p e e' e'' h = rw (e, e', e'') at h

balances : (n : ℕ) (w : ℕ → ℕ → ℕ) (free : ℕ → Bool) (p t : ℕ → ℕ) (d : ℕ) → IsSolution n (between w free) (ground n w free) (source free p) t d → Balances n w free p t d
balances n w free p t d sol = record {
  fixed = fixed_of n w free p t d sol;
  balanced = λ i h is.
      let sums = total_below-combine n 1 1 (out_of w free i) (between w free i) (w i) (λ j b. split w free i j is) in
      let g = cond-true (free i) (total_below n (out_of w free i)) 1 is in
      in_free (ground n w free i) (total_below n (between w free i)) (total_below n (w i)) (t i)
      (total_below n (λ j. between w free i j * t j)) (total_below n (λ j. w i j * t j)) d (source free p i) (p i)
      (omega arith)
      (total_below-same n (λ j. between w free i j * t j) (λ j. w i j * t j) (λ j b. same_flow n w free t i j is (fixed_of n w free p t d sol j b)))
      (cond-true (free i) (p i) 0 is)
      (sol.balance i h);
}

-- ---- whole numbers as differences
apart : (n : ℕ) (w : ℕ → ℕ) (a b : ℕ) (x y : ℕ → ℕ)
    → sum_below n (λ j. pos (w j) *ℤ ((pos a -ℤ pos b) -ℤ (pos (x j) -ℤ pos (y j)))) +ℤ pos (total_below n w * b + total_below n (λ j. w j * x j))
    ≡ pos (total_below n w * a + total_below n (λ j. w j * y j))
apart zero w a b x y = omega (arith, ints)
apart (suc n) w a b x y =
    let rest = apart n w a b x y in
    let z = (pos a -ℤ pos b) -ℤ (pos (x n) -ℤ pos (y n)) in
    let e : up z + b + x n ≡ down z + a + y n = omega (arith, ints) in
    let times = ap (λ k. w n * k) e in
    omega (arith, ints)

solves : (n : ℕ) (w : ℕ → ℕ → ℕ) (free : ℕ → Bool) (p : ℕ → ℤ) (x y : ℕ → ℕ) (d : ℕ) → 0 < d
    → Balances n w free (λ i. up (p i)) x d → Balances n w free (λ i. down (p i)) y d → SolvesTable n w free p (λ i. pos (x i) -ℤ pos (y i)) d
solves n w free p x y d some hx hy = record {
  positive = some;
  fixed = λ i b u. let e = hx.fixed i b u in let f = hy.fixed i b u in omega (arith, ints);
  balanced = λ i b is.
      let e = hx.balanced i b is in
      let f = hy.balanced i b is in
      let sum = apart n (w i) (x i) (y i) x y in
      omega (arith, ints);
}

-- one denominator, and for each right side the numerators
pub solution : (n : ℕ) (w : ℕ → ℕ → ℕ) (free : ℕ → Bool) → IsGrounded n w free
    → (d : ℕ) × (0 < d) × ((p : ℕ → ℤ) → (t : ℕ → ℤ) × SolvesTable n w free p t d)
solution n w free grounded =
    let all = existence n (between w free) (ground n w free) (drained n w free grounded) in (
      all.0,
      all.1,
      λ p.
          let x = all.2 (source free (λ i. up (p i))) in
          let y = all.2 (source free (λ i. down (p i))) in (
            (λ i. pos (x.0 i) -ℤ pos (y.0 i)),
            solves n w free p x.0 y.0 all.0 all.1 (balances n w free (λ i. up (p i)) x.0 all.0 x.1) (balances n w free (λ i. down (p i)) y.0 all.0 y.1),
          ),
    )
