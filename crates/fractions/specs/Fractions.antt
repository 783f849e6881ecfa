-- Exact fractions: a whole numerator over a positive whole denominator.
use Rattle.std.specs.Prelude.{◌≡◌, ℤ, pos, negsuc, ◌+ℤ◌, ◌*ℤ◌, ◌≤ℤ◌, ◌<ℤ◌, List, [], ◌∷◌, cond, int_le}
use Rattle.whole_laws.specs.Ring.{mul-positive}

pub record Fraction : Type 0 where
  pub num : ℤ
  pub den : ℤ
  pub positive : pos 0 <ℤ den

-- two fractions are the same number, by their cross products
pub record Same (p q : Fraction) : Type 0 where
  pub same : p.num *ℤ q.den ≡ q.num *ℤ p.den

-- the first is at most the second, by their cross products
pub record AtMost (p q : Fraction) : Type 0 where
  pub at_most : (p.num *ℤ q.den) ≤ℤ (q.num *ℤ p.den)

-- a whole number
abbrev pub whole : ℤ → Fraction
whole z = record { num = z; den = pos 1; positive = record { lt = tt } }

abbrev pub plus : Fraction → Fraction → Fraction
plus p q = record {
  num = p.num *ℤ q.den +ℤ q.num *ℤ p.den;
  den = p.den *ℤ q.den;
  positive = mul-positive p.den q.den p.positive q.positive;
}

-- a whole multiple
abbrev pub times : ℤ → Fraction → Fraction
times k p = record { num = k *ℤ p.num; den = p.den; positive = p.positive }

-- a fraction divided by a positive whole number
abbrev pub over : Fraction → (k : ℤ) → pos 0 <ℤ k → Fraction
over p k h = record { num = p.num; den = p.den *ℤ k; positive = mul-positive p.den k p.positive h }

abbrev pub product : Fraction → Fraction → Fraction
product p q = record {
  num = p.num *ℤ q.num;
  den = p.den *ℤ q.den;
  positive = mul-positive p.den q.den p.positive q.positive;
}

abbrev pub negated : Fraction → Fraction
negated p = times (negsuc 0) p

abbrev pub minus : Fraction → Fraction → Fraction
minus p q = plus p (negated q)

-- the greater and the lesser of two
abbrev pub maximum : Fraction → Fraction → Fraction
maximum p q = cond (int_le (p.num *ℤ q.den) (q.num *ℤ p.den)) q p

abbrev pub minimum : Fraction → Fraction → Fraction
minimum p q = cond (int_le (p.num *ℤ q.den) (q.num *ℤ p.den)) p q

-- the sum of `f x` over the items x of a list
abbrev pub total : {A : Type 0} → (A → Fraction) → List A → Fraction
total f [] = whole (pos 0)
total f (x ∷ xs) = plus (f x) (total f xs)
