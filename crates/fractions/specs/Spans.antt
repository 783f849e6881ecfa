-- Fractions that lie between two whole numbers.
use Rattle.std.specs.Prelude.{ℤ, List}
use Rattle.std.specs.List.{AllZip}
use Rattle.fractions.specs.Fractions.{Fraction, AtMost, whole, times}

-- low ≤ p ≤ high
pub record Lies (p : Fraction) (low high : ℤ) : Type 0 where
  pub above : AtMost (whole low) p
  pub below : AtMost p (whole high)

-- p lies in the span of these two ends
abbrev pub LiesIn : ℤ × ℤ → Fraction → Type 0
LiesIn s p = Lies p s.0 s.1

-- p, counted in a unit of which there are `unit` in one, lies in the span of these two ends
abbrev pub LiesAt : ℤ → ℤ × ℤ → Fraction → Type 0
LiesAt unit s p = LiesIn s (times unit p)

-- the same of each fraction and its span
abbrev pub EachLiesAt : ℤ → List (ℤ × ℤ) → List Fraction → Type 0
EachLiesAt unit = AllZip (LiesAt unit)

-- the ends of a span
abbrev pub low_end : ℤ × ℤ → ℤ
low_end s = s.0

abbrev pub high_end : ℤ × ℤ → ℤ
high_end s = s.1
