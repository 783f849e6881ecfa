-- Which rows are selected: those on which exchanges between zones weigh enough, by their greatest zone-to-zone factor. (Core
-- day-ahead capacity calculation methodology, ACER decision 02-2019, annex I.)
use Rattle.std.specs.Prelude.{ℤ, pos, List}
use Rattle.fractions.specs.Fractions.{Fraction, whole, minus, over, AtMost}
use Rattle.fractions.specs.Greatest.{greatest_of, least_of}

-- the greatest zone-to-zone factor: the greatest less the least of the factors of the zones
abbrev pub spread_of : List Fraction → Fraction
spread_of factors = minus (greatest_of factors) (least_of factors)

-- the spread of a row is at least the threshold, which is in thousandths
abbrev pub IsSelected : ℤ → Fraction → Type 0
IsSelected threshold spread = AtMost (over (whole threshold) (pos 1000) (record { lt = tt })) spread
