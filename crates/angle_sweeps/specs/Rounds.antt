-- Words of private contracts, which nobody need believe: what a round of a sweep is given. The contract of `sweep_up` says what its callers owe.
use Rattle.std.specs.Prelude.{◌≡◌, List, length, All, ℤ, pos, ◌≤ℤ◌}
use Rattle.grid_state.specs.GridState.{GridState, classes_of}
use Rattle.grid_laplacian.specs.Sizes.{size_of}
use Rattle.grid_laplacian.specs.Ranges.{HasRoomFor}

pub record IsRightSide (s : GridState) (p : List ℤ) : Type 0 where
  pub each_class : length p ≡ classes_of s
  pub nonnegative : All (λ z. pos 0 ≤ℤ z) p
  pub room : HasRoomFor s (size_of p)
