-- The alternating sums of the sine and of the arc tangent, two terms at a time.
use Rattle.std.proofs.Common.{◌≡◌, ℕ, suc, ℤ, pos, neg_ℤ, ◌+◌, ◌-◌, ◌*◌, ◌/◌, ◌%◌, ◌<◌, ◌≤◌, ◌+ℤ◌, ◌-ℤ◌, Bool, true, false, cond, refl, sym, ap, ◌∙◌, arith, eq-eqb}
use Rattle.std.specs.Prelude.{◌==◌}
use Rattle.std.proofs.Math.Nat.{mul-le-mul_left, div-mul-le_self}
use Rattle.std.proofs.lemmas.Nat.{le-div}
use Rattle.std.proofs.lemmas.Int.{ints}
use Rattle.phase_rule.specs.Trigonometry.{alternated, alternating, times_square, sine_term, sine_series, odd_power, arc_term, arc_series}

even_passes : (n : ℕ) → (2 * n % 2 == 0) ≡ true
even_passes n = eq-eqb (2 * n % 2) 0 (omega arith)

odd_fails : (n : ℕ) → (suc (2 * n) % 2 == 0) ≡ false
odd_fails n = let one : suc (2 * n) % 2 ≡ 1 = omega arith in rw one refl

alternated_even : (n v : ℕ) → alternated (2 * n) v ≡ pos v
alternated_even n v = ap (λ (b : Bool). cond b (pos v) (neg_ℤ (pos v))) (even_passes n)

alternated_odd : (n v : ℕ) → alternated (suc (2 * n)) v ≡ neg_ℤ (pos v)
alternated_odd n v = ap (λ (b : Bool). cond b (pos v) (neg_ℤ (pos v))) (odd_fails n)

two_terms : (s a b c : ℤ) (v w : ℕ) → b ≡ pos v → c ≡ neg_ℤ (pos w) → a ≡ s → (a +ℤ b) +ℤ c ≡ (s +ℤ pos v) -ℤ pos w
two_terms s a b c v w e f g = omega (arith, ints)

-- two more terms
pub alternating_pair : (n count : ℕ) (f : ℕ → ℕ) → count ≡ 2 * n + 2 → alternating count f ≡ (alternating (2 * n) f +ℤ pos (f (2 * n))) -ℤ pos (f (suc (2 * n)))
alternating_pair n count f e =
    let two : count ≡ suc (suc (2 * n)) = omega arith in
    ap (λ (k : ℕ). alternating k f) two
    ∙ two_terms (alternating (2 * n) f) (alternating (2 * n) f) (alternated (2 * n) (f (2 * n))) (alternated (suc (2 * n)) (f (suc (2 * n)))) (f (2 * n)) (f (suc (2 * n)))
    (alternated_even n (f (2 * n))) (alternated_odd n (f (suc (2 * n)))) refl

-- a last one
pub alternating_last : (n count : ℕ) (f : ℕ → ℕ) → count ≡ 2 * n + 1 → alternating count f ≡ alternating (2 * n) f +ℤ pos (f (2 * n))
alternating_last n count f e =
    let one : count ≡ suc (2 * n) = omega arith in
    ap (λ (k : ℕ). alternating k f) one ∙ ap (λ (v : ℤ). alternating (2 * n) f +ℤ v) (alternated_even n (f (2 * n)))

-- what the code adds is the two terms
pub pair_sum : (n count sum first second : ℕ) (f : ℕ → ℕ) → count ≡ 2 * n + 2 → pos sum ≡ alternating (2 * n) f → first ≡ f (2 * n) → second ≡ f (suc (2 * n)) → second ≤ first
    → pos (sum + (first - second)) ≡ alternating count f
pair_sum n count sum first second f e s a b le = omega (arith, ints, alternating_pair n count f e)

pub last_sum : (n count sum term : ℕ) (f : ℕ → ℕ) → count ≡ 2 * n + 1 → pos sum ≡ alternating (2 * n) f → term ≡ f (2 * n) → pos (sum + term) ≡ alternating count f
last_sum n count sum term f e s a = omega (arith, ints, alternating_last n count f e)

-- ---- the sine

-- the sum of the first 2n terms, and the term after them
pub record SineSoFar (x n sum term : ℕ) : Type 0 where
  pub is_sum : pos sum ≡ alternating (2 * n) (sine_term x)
  pub is_term : term ≡ sine_term x (2 * n)
  pub bound : sum + term ≤ x

next_sine : (x k j place term : ℕ) → j ≡ suc k → place ≡ k → term ≡ sine_term x k → times_square x term / ((2 * place + 2) * (2 * place + 3)) ≡ sine_term x j
next_sine x k j place term e p t =
    ap (λ (v : ℕ). times_square x v / ((2 * place + 2) * (2 * place + 3))) t
    ∙ ap (λ (v : ℕ). times_square x (sine_term x k) / ((2 * v + 2) * (2 * v + 3))) p ∙ ap (sine_term x) (sym e)

pub sine_pair : (x n place sum term taken next : ℕ) → SineSoFar x n sum term → place ≡ 2 * n
    → taken ≡ times_square x term / ((2 * place + 2) * (2 * place + 3)) → taken ≤ term
    → next ≡ times_square x taken / ((2 * (place + 1) + 2) * (2 * (place + 1) + 3)) → next ≤ taken
    → SineSoFar x (n + 1) (sum + (term - taken)) next
sine_pair x n place sum term taken next s p e le f le' =
    let is_taken : taken ≡ sine_term x (suc (2 * n)) = e ∙ next_sine x (2 * n) (suc (2 * n)) place term refl p s.is_term in
    record {
      is_sum = pair_sum n (2 * (n + 1)) sum term taken (sine_term x) (omega arith) s.is_sum s.is_term is_taken le;
      is_term = f ∙ next_sine x (suc (2 * n)) (2 * (n + 1)) (place + 1) taken (omega arith) (omega arith) is_taken;
      bound = omega (arith, s.bound);
    }

-- the whole sum
pub sine_whole : (x n sum term : ℕ) → SineSoFar x n sum term → n ≡ 4 → pos (sum + term) ≡ sine_series x
unfolding sine_series
sine_whole x n sum term s e = last_sum n 9 sum term (sine_term x) (omega arith) s.is_sum s.is_term

-- ---- the arc tangent

pub record ArcSoFar (u n sum power : ℕ) : Type 0 where
  pub is_sum : pos sum ≡ alternating (2 * n) (arc_term u)
  pub is_power : power ≡ odd_power u (2 * n)
  pub small : power ≤ u
  pub bound : sum + power / (4 * n + 1) ≤ u

-- a smaller number by a greater divisor
pub smaller_quotient : (p q a b : ℕ) → q ≤ p → 0 < a → a ≤ b → q / b ≤ p / a
smaller_quotient p q a b le some wide =
    let m : q / b * a ≤ q / b * b = mul-le-mul_left (q / b) wide in
    le-div (q / b) p a some (omega (arith, m, div-mul-le_self q b))

next_odd : (u k j power : ℕ) → j ≡ suc k → power ≡ odd_power u k → times_square u power ≡ odd_power u j
next_odd u k j power e t = ap (times_square u) t ∙ ap (odd_power u) (sym e)

arc_is : (u k power divisor : ℕ) → power ≡ odd_power u k → divisor ≡ 2 * k + 1 → power / divisor ≡ arc_term u k
arc_is u k power divisor e d = ap (λ (v : ℕ). v / divisor) e ∙ ap (λ (v : ℕ). odd_power u k / v) d

pub arc_pair : (u n place sum power taken next : ℕ) → ArcSoFar u n sum power → place ≡ 4 * n → taken ≡ times_square u power → taken ≤ power → next ≡ times_square u taken → next ≤ taken
    → ArcSoFar u (n + 1) (sum + (power / (place + 1) - taken / (place + 3))) next
arc_pair u n place sum power taken next s p e le f le' =
    let is_taken : taken ≡ odd_power u (suc (2 * n)) = e ∙ next_odd u (2 * n) (suc (2 * n)) power refl s.is_power in
    let first : power / (4 * n + 1) ≡ power / (place + 1) = ap (λ (v : ℕ). power / v) (omega_same n place p) in
    let third : taken / (place + 3) ≤ power / (place + 1) = smaller_quotient power taken (place + 1) (place + 3) le (omega arith) (omega arith) in
    let fifth : next / (4 * (n + 1) + 1) ≤ taken / (place + 3) = smaller_quotient taken next (place + 3) (4 * (n + 1) + 1) le' (omega arith) (omega arith) in
    record {
      is_sum = pair_sum n (2 * (n + 1)) sum (power / (place + 1)) (taken / (place + 3)) (arc_term u) (omega arith) s.is_sum
          (arc_is u (2 * n) power (place + 1) s.is_power (omega arith)) (arc_is u (suc (2 * n)) taken (place + 3) is_taken (omega arith)) third;
      is_power = f ∙ next_odd u (suc (2 * n)) (2 * (n + 1)) taken (omega arith) is_taken;
      small = omega (arith, s.small);
      bound = omega (arith, s.bound, first, third, fifth);
    }
  where
    omega_same : (n place : ℕ) → place ≡ 4 * n → 4 * n + 1 ≡ place + 1
    omega_same n place e = omega arith

-- the whole sum
pub arc_whole : (u n sum power : ℕ) → ArcSoFar u n sum power → n ≡ 8 → pos sum ≡ arc_series u
unfolding arc_series
arc_whole u n sum power s e = s.is_sum ∙ ap (λ (k : ℕ). alternating k (arc_term u)) (twice n e)
  where
    twice : (n : ℕ) → n ≡ 8 → 2 * n ≡ 16
    twice n e = omega arith
