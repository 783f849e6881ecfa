-- Rows over net positions, the positions that meet them, and how multipliers prove one row from others.
-- Zones are counted from 0 and rows from 1. Net positions, bounds and right sides are in watts, coefficients in 10^-12,
-- multipliers in 10^-9.
use Rattle.std.specs.Prelude.{◌≡◌, ℕ, ◌-◌, ◌*◌, ◌^◌, ◌<◌, ◌≤◌, ℤ, pos, ◌+ℤ◌, ◌-ℤ◌, ◌*ℤ◌, ◌≤ℤ◌, List, length, Option, Some, None, IfSome, slice_get}
use Rattle.std.specs.Int.{int_max}
use Rattle.std.specs.List.{All, AllAdjacentBelow}
use Rattle.whole_laws.specs.Sums.{sum_below, sum_over, at, IsWithin}
use Rattle.fb_types.specs.declared.rows.Bounds.{Bounds}
use Rattle.fb_types.specs.declared.rows.Half.{Half}
use Rattle.fb_types.specs.declared.rows.Mult.{Mult}
use Rattle.fb_types.specs.declared.rows.Multipliers.{Multipliers}

-- ---- Points

-- the bounds of a zone, where there is one
abbrev pub low_of : Option Bounds → ℤ
low_of None = pos 0
low_of (Some b) = b.low

abbrev pub high_of : Option Bounds → ℤ
high_of None = pos 0
high_of (Some b) = b.high

-- one net position for each zone, each within the zone's bounds, with sum 0
pub record IsPoint (bounds : List Bounds) (x : List ℤ) : Type 0 where
  pub zones : length x ≡ length bounds
  pub inside : (z : ℕ) → z < length bounds → (low_of (slice_get bounds z) ≤ℤ at x z) × (at x z ≤ℤ high_of (slice_get bounds z))
  pub balanced : sum_below (length x) (λ z. at x z) ≡ pos 0

-- ---- Meets

-- the sum of a_z·x_z is at most r·10^12
pub record Meets (row : Half) (x : List ℤ) : Type 0 where
  pub within : sum_below (length x) (λ z. at row.a z *ℤ at x z) ≤ℤ (row.r *ℤ pos (10 ^ 12))

-- ---- Follows

-- the list has a row of this number
pub record IsRow (rows : List Half) (number : ℕ) : Type 0 where
  pub above : 1 ≤ number
  pub within : number ≤ length rows

-- the right side, and a coefficient, of the row with this number
abbrev pub side_of : Option Half → ℤ
side_of None = pos 0
side_of (Some row) = row.r

abbrev pub coefficient_of : Option Half → ℕ → ℤ
coefficient_of None z = pos 0
coefficient_of (Some row) z = at row.a z

abbrev pub row_at : List Half → ℕ → Option Half
row_at rows number = slice_get rows (number - 1)

-- the sums of multiplier times right side, and of multiplier times coefficient, over the rows that are cited
abbrev pub combined_side : List Half → List Mult → ℤ
combined_side rows mults = sum_over (λ m. m.value *ℤ side_of (row_at rows m.row)) mults

abbrev pub combined_coefficient : List Half → List Mult → ℕ → ℤ
combined_coefficient rows mults z = sum_over (λ m. m.value *ℤ coefficient_of (row_at rows m.row) z) mults

-- q_z, what the cited rows and mu leave of 10^9 times the target's coefficient
abbrev pub remainder : Half → List Half → Multipliers → ℕ → ℤ
remainder target rows by z = pos (10 ^ 9) *ℤ at target.a z -ℤ combined_coefficient rows by.mults z -ℤ by.mu

-- the most that a coefficient q can give within the bounds
abbrev pub greatest : Option Bounds → ℤ → ℤ
greatest b q = int_max (q *ℤ low_of b) (q *ℤ high_of b)

-- the most that the first n zones together can give
abbrev pub greatest_rest : Half → List Half → Multipliers → List Bounds → ℕ → ℤ
greatest_rest target rows by bounds n =
    sum_below n (λ z. greatest (slice_get bounds z) (remainder target rows by z))

-- the multipliers prove the target from the rows that they cite, and the bounds
pub record Follows (target : Half) (rows : List Half) (by : Multipliers) (bounds : List Bounds) : Type 0 where
  pub cited : All (λ m. IsRow rows m.row) by.mults
  pub rising : AllAdjacentBelow (λ m n. m.row < n.row) by.mults (length by.mults)
  pub nonnegative : All (λ m. pos 0 ≤ℤ m.value) by.mults
  pub total : sum_over (λ m. m.value) by.mults ≤ℤ pos (10 ^ 12)
  pub balance : IsWithin (10 ^ 24) by.mu
  pub covers : (combined_side rows by.mults *ℤ pos (10 ^ 12) +ℤ greatest_rest target rows by bounds (length bounds)) ≤ℤ (pos (10 ^ 9) *ℤ target.r *ℤ pos (10 ^ 12))

-- every row that the multipliers cite holds at x
pub record MeetsCited (rows : List Half) (by : Multipliers) (x : List ℤ) : Type 0 where
  pub each : All (λ m. IfSome (row_at rows m.row) (λ row. Meets row x)) by.mults

-- ---- Ranges

-- a row over so many zones, with numbers in their ranges
pub record IsHalfOver (zones : ℕ) (row : Half) : Type 0 where
  pub long : length row.a ≡ zones
  pub coefficients : All (λ a. IsWithin (10 ^ 12) a) row.a
  pub side : IsWithin (2 * 10 ^ 13) row.r

-- the bounds of at most 64 zones, each within 10^11
pub record AreBounds (bounds : List Bounds) : Type 0 where
  pub few : length bounds ≤ 64
  pub lows : All (λ b. IsWithin (10 ^ 11) b.low) bounds
  pub highs : All (λ b. IsWithin (10 ^ 11) b.high) bounds
