-- What a guess of angles promises: it is small, and it stands still where angles do. A list has one number for each class.
use Rattle.std.specs.Prelude.{◌≡◌, ℕ, ◌*◌, ◌<◌, ◌≤◌, false, List, length, All, ℤ, pos, unsigned_abs}
use Rattle.whole_laws.specs.Sums.{at}
use Rattle.grid_state.specs.GridState.{GridState, classes_of, is_free, live_count}
use Rattle.grid_laplacian.specs.Sizes.{least_susceptance_of}
use Rattle.grid_laplacian.specs.Ranges.{greater_total_of}

-- w is 0 at the slack's class and at classes that are not live, and with n live classes and the least susceptance b each |w| is
-- at most 2·n/b times the greater of `total` and twice the sum of the susceptances
pub record IsGuess (s : GridState) (total : ℕ) (w : List ℤ) : Type 0 where
  pub each_class : length w ≡ classes_of s
  pub small : All (λ z. least_susceptance_of s * unsigned_abs z ≤ 2 * live_count s * greater_total_of s total) w
  pub fixed : (i : ℕ) → i < classes_of s → is_free s i ≡ false → at w i ≡ pos 0
