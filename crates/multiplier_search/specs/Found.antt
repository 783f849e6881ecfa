-- Of which lists rows can be proved, and the multipliers that a search never overlooks. Rows are numbered from 1.
use Rattle.std.specs.Prelude.{ℕ, ◌-◌, ◌*◌, ◌^◌, ◌<◌, ℤ, pos, ◌≤ℤ◌, List, [], ◌∷◌, length, slice_get}
use Rattle.whole_laws.specs.Sums.{sum_below}
use Rattle.fb_types.specs.Domain.{low_of, high_of}
use Rattle.fb_types.specs.declared.rows.Bounds.{Bounds}
use Rattle.fb_types.specs.declared.rows.Mult.{Mult}
use Rattle.fb_types.specs.declared.rows.Multipliers.{Multipliers}

-- bounds of at least one zone that hold a point: none cross, and 0 lies between their sums
pub record IsBox (bounds : List Bounds) : Type 0 where
  pub some_zone : 0 < length bounds
  pub ordered : (z : ℕ) → z < length bounds → low_of (slice_get bounds z) ≤ℤ high_of (slice_get bounds z)
  pub lows : sum_below (length bounds) (λ z. low_of (slice_get bounds z)) ≤ℤ pos 0
  pub highs : pos 0 ≤ℤ sum_below (length bounds) (λ z. high_of (slice_get bounds z))

-- no row, one row at 10^9, and two rows at tenths of it
abbrev pub none_of : List Mult
none_of = []

abbrev pub one_of : ℕ → List Mult
one_of number = record { row = number; value = pos (10 ^ 9) } ∷ []

abbrev pub pair_of : ℕ → ℕ → ℕ → List Mult
pair_of i j k = record { row = i; value = pos (k * 10 ^ 8) } ∷ record { row = j; value = pos ((10 - k) * 10 ^ 8) } ∷ []

abbrev pub with_balance : List Mult → ℤ → Multipliers
with_balance mults mu = record { mu = mu; mults = mults }
