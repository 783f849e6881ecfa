-- Words of private contracts: the parts of what a barrier and a column are to meet. Nobody need believe them.
use Rattle.std.specs.Prelude.{◌≡◌, ℕ, ◌*◌, ◌<◌, ◌≤◌, false, List, length, All, ℤ, pos, ◌≤ℤ◌, unsigned_abs}
use Rattle.whole_laws.specs.Sums.{at}
use Rattle.grid_state.specs.GridState.{GridState, classes_of, is_free, live_count}
use Rattle.grid_laplacian.specs.Ranges.{greatest_total_of, reach_of}
use Rattle.grid_laplacian.specs.Sizes.{least_susceptance_of}

-- the numbers are 0 at the slack's class and at classes that are not live
abbrev pub IsFixed : GridState → List ℤ → Type 0
IsFixed s w = (i : ℕ) → i < classes_of s → is_free s i ≡ false → at w i ≡ pos 0

-- the numbers are in the bound of a column
abbrev pub IsSmall : GridState → List ℤ → Type 0
IsSmall s w = All (λ z. least_susceptance_of s * unsigned_abs z ≤ 2 * live_count s * greatest_total_of s) w

-- a column but for what it leaves of its right side
pub record IsBounded (s : GridState) (w : List ℤ) : Type 0 where
  pub each_class : length w ≡ classes_of s
  pub small : IsSmall s w
  pub fixed : IsFixed s w

-- a barrier but for its slope
pub record IsRanged (s : GridState) (v : List ℤ) : Type 0 where
  pub each_class : length v ≡ classes_of s
  pub nonnegative : All (λ z. pos 0 ≤ℤ z) v
  pub in_reach : All (λ z. z ≤ℤ pos (2 * reach_of s)) v
  pub fixed : IsFixed s v
