-- The span of the spread of a row, in 10^-12. Nobody need read this to know what a domain promises.
use Rattle.std.specs.Prelude.{ℤ, pos, ◌-ℤ◌, List, [], ◌∷◌, map}
use Rattle.std.specs.Int.{int_max, int_min}
use Rattle.std.specs.List.{fold}
use Rattle.fractions.specs.Fractions.{Fraction}
use Rattle.fractions.specs.Spans.{LiesAt, EachLiesAt, low_end, high_end}
use Rattle.security.specs.Spreads.{spread_of}

-- factors and spreads are counted in 10^-12
abbrev pub trillion : ℤ
trillion = pos 1_000_000_000_000

-- the greatest and the least of a list of whole numbers, and 0 of the empty one
abbrev pub greatest_whole : List ℤ → ℤ
greatest_whole [] = pos 0
greatest_whole (z ∷ zs) = fold int_max z zs

abbrev pub least_whole : List ℤ → ℤ
least_whole [] = pos 0
least_whole (z ∷ zs) = fold int_min z zs

-- the greatest low end less the least high one, but at least 0
abbrev pub spread_low : List (ℤ × ℤ) → ℤ
spread_low factors = int_max (greatest_whole (map low_end factors) -ℤ least_whole (map high_end factors)) (pos 0)

-- the greatest high end less the least low one
abbrev pub spread_high : List (ℤ × ℤ) → ℤ
spread_high factors = greatest_whole (map high_end factors) -ℤ least_whole (map low_end factors)

-- the spread lies in the span wherever each factor lies in its own
abbrev pub HoldsSpread : List (ℤ × ℤ) → ℤ × ℤ → Type 0
HoldsSpread spans spread = (factors : List Fraction)
    → EachLiesAt trillion spans factors → LiesAt trillion spread (spread_of factors)
