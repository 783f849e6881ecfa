-- What deviations of factors may put on a row, in a type of whole numbers. Nobody need read this to know what a domain
-- promises.
use Rattle.std.specs.Prelude.{◌≡◌, ℕ, ◌≤◌, ℤ, ◌-ℤ◌, List, take, length, Option, Some, None}
use Rattle.std.specs.List.{All, zip}
use Rattle.whole_laws.specs.Sums.{sum_over}
use Rattle.fb_span.specs.Ends.{EndsFrom}
use Rattle.fb_span.specs.Exact.{IsFrom}
use Rattle.fb_span.specs.LeastSpans.{least_corner, greatest_corner}
use Rattle.fb_types.specs.declared.rows.Bounds.{Bounds}
use Rattle.domain_rows.specs.Brackets.{ends_of_box}

-- a zone: the span of its factor, its coefficient, and the bounds of its net position
abbrev pub Zone : Type 0
Zone = ((ℤ × ℤ) × ℤ) × Bounds

abbrev pub zones_of : List (ℤ × ℤ) → List ℤ → List Bounds → List Zone
zones_of factors a bounds = zip (zip factors a) bounds

-- how far the ends of a span are from a coefficient
abbrev pub difference_of : (ℤ × ℤ) × ℤ → ℤ × ℤ
difference_of d = (d.0.0 -ℤ d.1, d.0.1 -ℤ d.1)

-- the least and the greatest product of an end's difference and a bound
abbrev pub least_reach : Zone → ℤ
least_reach zone = least_corner (difference_of zone.0) (ends_of_box zone.1)

abbrev pub greatest_reach : Zone → ℤ
greatest_reach zone = greatest_corner (difference_of zone.0) (ends_of_box zone.1)

-- what all zones may put on a row together, at least and at most
abbrev pub reach_of : List Zone → ℤ × ℤ
reach_of zones = (sum_over least_reach zones, sum_over greatest_reach zones)

-- the differences, the bounds and the products of a zone are from `low` to `high`
pub record ZoneFits (low high : ℤ) (zone : Zone) : Type 0 where
  pub differences : EndsFrom low high (difference_of zone.0)
  pub bounds : EndsFrom low high (ends_of_box zone.1)
  pub products : EndsFrom low high (least_reach zone, greatest_reach zone)

-- so are those of each zone, and the sums of the products of the first k zones, for each k
pub record ReachFits (low high : ℤ) (zones : List Zone) : Type 0 where
  pub each : All (ZoneFits low high) zones
  pub least_sums : (k : ℕ) → k ≤ length zones → IsFrom low high (sum_over least_reach (take k zones))
  pub greatest_sums : (k : ℕ) → k ≤ length zones → IsFrom low high (sum_over greatest_reach (take k zones))

-- the products of a zone, and none exactly where a number on the way is past the type
abbrev pub IsZoneReach : {T : Type 0} → (T → ℤ) → ℤ → ℤ → Option (T × T) → Zone → Type 0
IsZoneReach whole low high (Some s) zone = (whole s.0 ≡ least_reach zone) × (whole s.1 ≡ greatest_reach zone) × ZoneFits low high zone
IsZoneReach whole low high None zone = ¬ (ZoneFits low high zone)

-- the sums of the products, and none exactly where a number on the way is past the type
abbrev pub IsReach : {T : Type 0} → (T → ℤ) → ℤ → ℤ → Option (T × T) → List Zone → Type 0
IsReach whole low high (Some s) zones =
    (whole s.0 ≡ sum_over least_reach zones) × (whole s.1 ≡ sum_over greatest_reach zones) × ReachFits low high zones
IsReach whole low high None zones = ¬ (ReachFits low high zones)
