-- Which class a row has by a span. Nobody need read this to know what a domain promises.
-- The span is that of its spread, in 10^-12, and the threshold is in thousandths.
use Rattle.std.specs.Prelude.{ℕ, ℤ, pos, ◌*ℤ◌, int_lt, int_le, if◌then◌else◌}
use Rattle.fractions.specs.Fractions.{Fraction}
use Rattle.fractions.specs.Spans.{LiesAt}
use Rattle.security.specs.Spreads.{IsSelected}
use Rattle.cnec_selection.specs.SpreadSpans.{trillion}
use Rattle.cnec_selection.specs.declared.Class.{Class}
use Rattle.cnec_selection.specs.declared.Class.TheVariants.{Below, Doubtful, Certain}

-- a threshold in thousandths, counted in 10^-12
abbrev pub level_of : ℕ → ℤ
level_of threshold = pos threshold *ℤ pos 1_000_000_000

-- below where the high end is below the threshold, certain where the low end is at least the threshold, and doubtful
-- otherwise
abbrev pub class_of : ℤ × ℤ → ℕ → Class
class_of spread threshold =
    if int_lt spread.1 (level_of threshold) then Below else (if int_le (level_of threshold) spread.0 then Certain else Doubtful)

-- what a class says of every spread in the span
abbrev pub IsRight : ℤ × ℤ → ℕ → Class → Type 0
IsRight span threshold Below = (spread : Fraction) → LiesAt trillion span spread → ¬ (IsSelected (pos threshold) spread)
IsRight span threshold Doubtful = Unit {0}
IsRight span threshold Certain = (spread : Fraction) → LiesAt trillion span spread → IsSelected (pos threshold) spread
