-- The span of the spread of a row, in a type of whole numbers. Nobody need read this to know what a domain promises.
use Rattle.std.specs.Prelude.{◌≡◌, ℤ, ◌-ℤ◌, List, map, Option, Some, None}
use Rattle.std.specs.List.{All}
use Rattle.fractions.specs.Spans.{low_end, high_end}
use Rattle.fb_span.specs.Ends.{EndsFrom}
use Rattle.fb_span.specs.Exact.{IsFrom}
use Rattle.cnec_selection.specs.SpreadSpans.{greatest_whole, least_whole, spread_low, spread_high}

-- the greatest and the least ends of spans, all of whose ends are from `least` to `greatest`
pub record AreExtremes {T : Type 0} (whole : T → ℤ) (low high : ℤ) (spans : List (ℤ × ℤ)) (greatest least : T × T) : Type 0 where
  pub ends : All (EndsFrom low high) spans
  pub greatest_low : whole greatest.0 ≡ greatest_whole (map low_end spans)
  pub greatest_high : whole greatest.1 ≡ greatest_whole (map high_end spans)
  pub least_low : whole least.0 ≡ least_whole (map low_end spans)
  pub least_high : whole least.1 ≡ least_whole (map high_end spans)

-- the ends of the factors are from `least` to `greatest`, and so are the two differences between them
pub record SpreadFits (least greatest : ℤ) (factors : List (ℤ × ℤ)) : Type 0 where
  pub ends : All (EndsFrom least greatest) factors
  pub inner : IsFrom least greatest (greatest_whole (map low_end factors) -ℤ least_whole (map high_end factors))
  pub outer : IsFrom least greatest (greatest_whole (map high_end factors) -ℤ least_whole (map low_end factors))

-- the span of the spread, and none exactly where an end or a difference is not from `least` to `greatest`
abbrev pub IsSpread : {T : Type 0} → (T → ℤ) → ℤ → ℤ → Option (T × T) → List (ℤ × ℤ) → Type 0
IsSpread whole least greatest (Some s) factors =
    (whole s.0 ≡ spread_low factors) × (whole s.1 ≡ spread_high factors) × SpreadFits least greatest factors
IsSpread whole least greatest None factors = ¬ (SpreadFits least greatest factors)
