-- How wide a span is: words of lemmas, which nobody need believe.
-- Widths are compared by whole multiples, so that no quotient is rounded.
use Rattle.std.specs.Prelude.{ℤ, ◌-ℤ◌, ◌*ℤ◌, ◌≤ℤ◌, ◌<ℤ◌}

abbrev pub width_of : ℤ × ℤ → ℤ
width_of s = s.1 -ℤ s.0

-- the span is narrower than most/unit
abbrev pub IsNarrow : ℤ → ℤ → ℤ × ℤ → Type 0
IsNarrow unit most s = (unit *ℤ width_of s) <ℤ most

-- its low end is not above its high one
abbrev pub IsOrdered : ℤ × ℤ → Type 0
IsOrdered s = s.0 ≤ℤ s.1
