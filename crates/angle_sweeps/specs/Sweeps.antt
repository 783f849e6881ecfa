-- Whole numbers that approach the angles of a right side from below. A list has one number for each class.
use Rattle.std.specs.Prelude.{◌≡◌, ℕ, ◌<◌, true, false, List, length, All, ℤ, pos, ◌-ℤ◌, ◌≤ℤ◌, ◌<ℤ◌}
use Rattle.whole_laws.specs.Sums.{at}
use Rattle.grid_state.specs.GridState.{GridState, classes_of, is_free, susceptance_of}
use Rattle.grid_laplacian.specs.Laws.{laplacian_at}

-- w is at least 0, is 0 at the slack's class and at classes that are not live, and at every other class L·w is at most p
pub record IsUnder (s : GridState) (p w : List ℤ) : Type 0 where
  pub each_class : length w ≡ classes_of s
  pub nonnegative : All (λ z. pos 0 ≤ℤ z) w
  pub fixed : (i : ℕ) → i < classes_of s → is_free s i ≡ false → at w i ≡ pos 0
  pub under : (i : ℕ) → i < classes_of s → is_free s i ≡ true → laplacian_at s w i ≤ℤ at p i

-- p - L·w is below the susceptance at each live class but the slack's
pub record IsClose (s : GridState) (p w : List ℤ) : Type 0 where
  pub close : (i : ℕ) → i < classes_of s → is_free s i ≡ true → (at p i -ℤ laplacian_at s w i) <ℤ pos (susceptance_of s i)
