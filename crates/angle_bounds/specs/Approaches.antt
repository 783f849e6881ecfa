-- Words of private contracts: guessed angles with what they leave of a right side. Nobody need believe them: the contracts of
-- `barrier` and `enclose` say what comes of them.
use Rattle.std.specs.Prelude.{◌≡◌, ℕ, ◌≤◌, List, ℤ}
use Rattle.std.specs.Bool.{OnTrue}
use Rattle.grid_state.specs.GridState.{GridState, classes_of}
use Rattle.grid_laplacian.specs.Sizes.{size_of}
use Rattle.sparse_factor.specs.Guesses.{IsGuess}
use Rattle.angle_bounds.specs.declared.corrections.Approach.{Approach}
use Rattle.angle_bounds.specs.RightSides.{IsMade, IsAtMostOne, remainder_of}

-- guessed angles, and beside them what they leave of p; where that is settled it is at most the susceptance
pub record Approaches (s : GridState) (p : List ℤ) (a : Approach) : Type 0 where
  pub guess : IsGuess s (size_of p) a.w
  pub left : IsMade s (remainder_of s p a.w) a.left (classes_of s)
  pub settled : OnTrue a.is_settled (IsAtMostOne s a.left (classes_of s))

-- kappa is 0 where nothing is left, else 1
pub record HasLeastKappa (left : List ℤ) (kappa : ℕ) : Type 0 where
  pub at_most_one : kappa ≤ 1
  pub exact : kappa ≡ 0 → size_of left ≡ 0
  pub least : size_of left ≡ 0 → kappa ≡ 0
