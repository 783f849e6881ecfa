-- The most that coefficients can give within the bounds, as a function of the multiplier of the balance: words of private contracts, which
-- nobody need believe.
use Rattle.std.specs.Prelude.{◌≡◌, ℕ, ◌<◌, ◌^◌, ℤ, pos, ◌-ℤ◌, ◌*ℤ◌, ◌≤ℤ◌, List, length, cond, int_le, slice_get, Option}
use Rattle.whole_laws.specs.Sums.{sum_below, at}
use Rattle.fb_types.specs.Domain.{greatest, low_of, high_of, combined_coefficient, combined_side}
use Rattle.fb_types.specs.declared.rows.Bounds.{Bounds}
use Rattle.fb_types.specs.declared.rows.Half.{Half}
use Rattle.fb_types.specs.declared.rows.Mult.{Mult}

-- the most that the first n coefficients c, each less mu, can give within the bounds
abbrev pub most_below : List Bounds → (ℕ → ℤ) → ℤ → ℕ → ℤ
most_below bounds c mu n = sum_below n (λ z. greatest (slice_get bounds z) (c z -ℤ mu))

abbrev pub most : List Bounds → (ℕ → ℤ) → ℤ → ℤ
most bounds c mu = most_below bounds c mu (length bounds)

-- by how much `most` falls for each unit that mu rises from t: the high bounds of the coefficients above t, and the low bounds of the others
abbrev pub weight : Option Bounds → ℤ → ℤ → ℤ
weight b a t = cond (int_le a t) (low_of b) (high_of b)

abbrev pub fall_weight : List Bounds → (ℕ → ℤ) → ℤ → ℕ → ℤ
fall_weight bounds c t z = weight (slice_get bounds z) (c z) t

abbrev pub fall_below : List Bounds → (ℕ → ℤ) → ℤ → ℕ → ℤ
fall_below bounds c t n = sum_below n (fall_weight bounds c t)

abbrev pub fall : List Bounds → (ℕ → ℤ) → ℤ → ℤ
fall bounds c t = fall_below bounds c t (length bounds)

-- the least corner from which `most` falls no more
pub record IsTurn (bounds : List Bounds) (c : ℕ → ℤ) (t : ℤ) : Type 0 where
  pub corner : (z : ℕ) × (z < length bounds) × (t ≡ c z)
  pub still : fall bounds c t ≤ℤ pos 0
  pub least : (z : ℕ) → z < length bounds → fall bounds c (c z) ≤ℤ pos 0 → t ≤ℤ c z

-- ---- Rows

-- 10^9 times the target's coefficient, less those of the rows that are cited
abbrev pub corner : Half → List Half → List Mult → ℕ → ℤ
corner target rows mults z = pos (10 ^ 9) *ℤ at target.a z -ℤ combined_coefficient rows mults z

-- what the cited rows leave of the target's side
abbrev pub room : Half → List Half → List Mult → ℤ
room target rows mults = pos (10 ^ 9) *ℤ target.r *ℤ pos (10 ^ 12) -ℤ combined_side rows mults *ℤ pos (10 ^ 12)

-- the rows with these multipliers, the balance with mu, and the bounds leave no more than the target allows
pub record IsCovered (target : Half) (rows : List Half) (mults : List Mult) (bounds : List Bounds) (mu : ℤ) : Type 0 where
  pub fits : most bounds (corner target rows mults) mu ≤ℤ room target rows mults
