-- What the operations on spans give: the least span that holds all results.
use Rattle.std.specs.Prelude.{◌≡◌, ℤ, pos, ◌*ℤ◌, ◌≤ℤ◌, ◌<ℤ◌, Option, Some, None}
use Rattle.std.specs.Int.{int_max, int_min}
use Rattle.fractions.specs.Fractions.{Fraction, whole, over}
use Rattle.fractions.specs.Spans.{Lies, LiesIn}
use Rattle.fb_span.specs.Exact.{IsFrom}

-- the span from low to high, both of them from `least` to `greatest`, and none exactly where one of them is not
abbrev pub IsExactSpan : {T : Type 0} → (T → ℤ) → ℤ → ℤ → Option (T × T) → ℤ → ℤ → Type 0
IsExactSpan whole least greatest (Some s) low high =
    (whole s.0 ≡ low) × (whole s.1 ≡ high) × IsFrom least greatest low × IsFrom least greatest high
IsExactSpan whole least greatest None low high = ¬ (IsFrom least greatest low × IsFrom least greatest high)

-- s holds what f makes of every number in a, and every span that holds what f makes of the whole numbers in a holds s
pub record IsLeastOfOne (f : Fraction → Fraction) (a s : ℤ × ℤ) : Type 0 where
  pub holds : (p : Fraction) → LiesIn a p → LiesIn s (f p)
  pub least : (low high : ℤ) → ((x : ℤ) → LiesIn a (whole x) → Lies (f (whole x)) low high)
      → (low ≤ℤ s.0) × (s.1 ≤ℤ high)

-- the same of what f makes of a number in a and a number in b
pub record IsLeastOfTwo (f : Fraction → Fraction → Fraction) (a b s : ℤ × ℤ) : Type 0 where
  pub holds : (p q : Fraction) → LiesIn a p → LiesIn b q → LiesIn s (f p q)
  pub least : (low high : ℤ) → ((x y : ℤ) → LiesIn a (whole x) → LiesIn b (whole y) → Lies (f (whole x) (whole y)) low high)
      → (low ≤ℤ s.0) × (s.1 ≤ℤ high)

-- s holds every number in a and every number in b, and every span that holds the whole numbers in a and in b holds s
pub record IsLeastOfBoth (a b s : ℤ × ℤ) : Type 0 where
  pub holds_first : (p : Fraction) → LiesIn a p → LiesIn s p
  pub holds_second : (p : Fraction) → LiesIn b p → LiesIn s p
  pub least : (low high : ℤ)
      → ((x : ℤ) → LiesIn a (whole x) → Lies (whole x) low high)
      → ((x : ℤ) → LiesIn b (whole x) → Lies (whole x) low high)
      → (low ≤ℤ s.0) × (s.1 ≤ℤ high)

-- s holds what f makes of every number in a and every number in b
abbrev pub HoldsAll : (Fraction → Fraction → Fraction) → ℤ × ℤ → ℤ × ℤ → ℤ × ℤ → Type 0
HoldsAll f a b s = (p q : Fraction) → LiesIn a p → LiesIn b q → LiesIn s (f p q)

-- s holds the quotient by d of every number in a
abbrev pub HoldsQuotients : ℤ × ℤ → ℤ → ℤ × ℤ → Type 0
HoldsQuotients a d s = (p : Fraction) (h : pos 0 <ℤ d) → LiesIn a p → LiesIn s (over p d h)

-- s holds exactly what both a and b hold
abbrev pub HoldsCommon : ℤ × ℤ → ℤ × ℤ → ℤ × ℤ → Type 0
HoldsCommon a b s = (p : Fraction) → (LiesIn s p → LiesIn a p × LiesIn b p) × (LiesIn a p → LiesIn b p → LiesIn s p)

-- no number lies in both
abbrev pub AreApart : ℤ × ℤ → ℤ × ℤ → Type 0
AreApart a b = (p : Fraction) → LiesIn a p → LiesIn b p → ⊥

-- the least and the greatest of the products of an end of a and an end of b
abbrev pub least_corner : ℤ × ℤ → ℤ × ℤ → ℤ
least_corner a b = int_min (int_min (a.0 *ℤ b.0) (a.0 *ℤ b.1)) (int_min (a.1 *ℤ b.0) (a.1 *ℤ b.1))

abbrev pub greatest_corner : ℤ × ℤ → ℤ × ℤ → ℤ
greatest_corner a b = int_max (int_max (a.0 *ℤ b.0) (a.0 *ℤ b.1)) (int_max (a.1 *ℤ b.0) (a.1 *ℤ b.1))
