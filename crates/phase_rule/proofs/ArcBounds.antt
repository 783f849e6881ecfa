-- The arc tangent is positive for positive numbers.
use Rattle.std.proofs.Common.{◌≡◌, ℕ, zero, suc, ℤ, pos, ◌+◌, ◌-◌, ◌*◌, ◌/◌, ◌^◌, ◌<◌, ◌≤◌, ◌+ℤ◌, ◌-ℤ◌, ◌≤ℤ◌, ◌<ℤ◌, Bool, true, false, cond, refl, subst, arith}
use Rattle.std.specs.Prelude.{nat_le, nat_lt}
use Rattle.std.proofs.Math.Nat.{mul-le-mul_left, mul-le-mul_right, div-le_of_le-mul, div-le_self}
use Rattle.std.proofs.lemmas.Bool.{ltb-true, ltb-false, leb-true, leb-false}
use Rattle.std.proofs.lemmas.Int.{ints}
use Rattle.phase_rule.specs.Trigonometry.{one, eighth_turn, quarter_turn, alternating, times_square, arc_term, arc_series, arc_tangent_of}
use Rattle.phase_rule.proofs.Series.{ArcSoFar, arc_pair}

times_small : (u p : ℕ) → u ≤ one → p * u / one ≤ p
times_small u p h = omega (arith, mul-le-mul_left p h)

times_square_small : (u p : ℕ) → u ≤ one → times_square u p ≤ p
times_square_small u p h = omega (arith, times_small u p h, times_small u (p * u / one) h)

-- the sum of the first 2n terms, which is positive for a positive number
record ArcBuilt (u n : ℕ) : Type 0 where
  sum : ℕ
  power : ℕ
  so_far : ArcSoFar u n sum power
  positive : 0 < u → 0 < n → 0 < sum

abbrev more : (u n : ℕ) → ArcBuilt u n → ℕ
more u n b = b.sum + (b.power / (4 * n + 1) - times_square u b.power / (4 * n + 3))

built_more : (u n : ℕ) → u ≤ one → (b : ArcBuilt u n) → (0 < u → 0 < more u n b) → ArcBuilt u (suc n)
built_more u n h b some =
    let taken = times_square u b.power in
    let s = arc_pair u n (4 * n) b.sum b.power taken (times_square u taken) b.so_far refl refl (times_square_small u b.power h) refl (times_square_small u taken h) in
    subst (λ (k : ℕ). ArcBuilt u k) (one_more n) (record { sum = more u n b; power = times_square u taken; so_far = s; positive = λ p _. some p })
  where
    one_more : (n : ℕ) → n + 1 ≡ suc n
    one_more n = omega arith

abbrev start : (u : ℕ) → ArcBuilt u 0
start u = record { sum = 0; power = u; so_far = record { is_sum = refl; is_power = refl; small = omega arith; bound = omega (arith, div-le_self u 1) }; positive = λ _ none. absurd (omega arith) }

first_pair : (u : ℕ) → u ≤ one → 0 < u → 0 < u / 1 - times_square u u / 3
first_pair u h some = let t = times_square_small u u h in omega (arith, t)

arc_built : (u n : ℕ) → u ≤ one → ArcBuilt u n
arc_built u zero h = start u
arc_built u (suc zero) h = built_more u zero h (start u) (λ p. omega (arith, first_pair u h p))
arc_built u (suc (suc n)) h =
    let b = arc_built u (suc n) h in
    built_more u (suc n) h b (λ p. let q : 0 < b.sum = b.positive p (omega arith) in omega arith)

pub record ArcBounds (u : ℕ) (value : ℤ) : Type 0 where
  pub low : pos 0 ≤ℤ value
  pub high : value ≤ℤ pos u
  pub positive : 0 < u → pos 0 <ℤ value

pub arc_series_bounds : (u : ℕ) → u ≤ one → ArcBounds u (arc_series u)
unfolding arc_series
arc_series_bounds u h =
    let b = arc_built u 8 h in
    let s : pos b.sum ≡ alternating 16 (arc_term u) = b.so_far.is_sum in
    let le : b.sum ≤ u = omega (arith, b.so_far.bound) in
    subst (λ (v : ℤ). ArcBounds u v) s (record {
      low = omega (arith, ints);
      high = omega (arith, ints, le);
      positive = λ p. let q : 0 < b.sum = b.positive p (omega arith) in omega (arith, ints, q);
    })

-- ---- the four cases

quotient_at_most : (a b c : ℕ) → c ≤ b → a * c / b ≤ a
quotient_at_most a b c le = let m : a * c ≤ a * b = mul-le-mul_left a le in div-le_of_le-mul b (omega (arith, m))

-- a value in the first quarter turn
pub record InQuarter (q : ℕ) (value : ℤ) : Type 0 where
  pub low : pos 0 ≤ℤ value
  pub positive : 0 < q → pos 0 <ℤ value

below_one : (q : ℕ) → q < one → (one - q) * one / (one + q) ≤ one - q
below_one q lt = quotient_at_most (one - q) (one + q) one (omega arith)

above_one : (q : ℕ) → (q - one) * one / (q + one) ≤ one
above_one q =
    let m : (q - one) * one ≤ (q + one) * one = mul-le-mul_right one (omega arith) in
    div-le_of_le-mul (q + one) m

far_above : (q : ℕ) → one ≤ q → one ^ 2 / q ≤ one
far_above q le = let m : one * one ≤ q * one = mul-le-mul_right one le in div-le_of_le-mul q m

last_case : (q : ℕ) (small : Bool) → one ≤ q → nat_le q 2414213562373 ≡ small
    → InQuarter q (cond small (pos eighth_turn +ℤ arc_series ((q - one) * one / (q + one))) (pos quarter_turn -ℤ arc_series (one ^ 2 / q)))
last_case q true ge e =
    let b = arc_series_bounds ((q - one) * one / (q + one)) (above_one q) in
    record { low = omega (arith, ints, b.low); positive = λ p. omega (arith, ints, b.low) }
last_case q false ge e =
    let f = far_above q ge in
    let b = arc_series_bounds (one ^ 2 / q) f in
    record { low = omega (arith, ints, b.high, f); positive = λ p. omega (arith, ints, b.high, f) }

middle_case : (q : ℕ) (below : Bool) → 414213562373 < q → nat_lt q one ≡ below
    → InQuarter q (cond below (pos eighth_turn -ℤ arc_series ((one - q) * one / (one + q)))
    (cond (nat_le q 2414213562373) (pos eighth_turn +ℤ arc_series ((q - one) * one / (q + one))) (pos quarter_turn -ℤ arc_series (one ^ 2 / q))))
middle_case q true gt e =
    let f = below_one q (ltb-true q one e) in
    let b = arc_series_bounds ((one - q) * one / (one + q)) (omega (arith, f)) in
    record { low = omega (arith, ints, b.high, f); positive = λ p. omega (arith, ints, b.high, f) }
middle_case q false gt e = last_case q (nat_le q 2414213562373) (ltb-false q one e) refl

first_case : (q : ℕ) (small : Bool) → nat_le q 414213562373 ≡ small
    → InQuarter q (cond small (arc_series q)
    (cond (nat_lt q one) (pos eighth_turn -ℤ arc_series ((one - q) * one / (one + q)))
    (cond (nat_le q 2414213562373) (pos eighth_turn +ℤ arc_series ((q - one) * one / (q + one))) (pos quarter_turn -ℤ arc_series (one ^ 2 / q)))))
first_case q true e =
    let b = arc_series_bounds q (omega (arith, leb-true q 414213562373 e)) in
    record { low = b.low; positive = b.positive }
first_case q false e = middle_case q (nat_lt q one) (leb-false q 414213562373 e) refl

pub arc_tangent_positive : (q : ℕ) → InQuarter q (arc_tangent_of q)
unfolding arc_tangent_of
arc_tangent_positive q = first_case q (nat_le q 414213562373) refl

pub arc_tangent_zero : arc_tangent_of 0 ≡ pos 0
unfolding arc_tangent_of arc_series
arc_tangent_zero = refl
