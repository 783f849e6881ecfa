-- The right side of a barrier, and guesses for it.
use Rattle.std.proofs.Common.{◌≡◌, ◌≤◌, ◌*◌, ℕ, ℤ, List, max, sym, subst, arith}
use Rattle.grid_state.specs.GridState.{GridState, classes_of}
use Rattle.grid_laplacian.specs.Sizes.{size_of, total_susceptance_of}
use Rattle.grid_laplacian.specs.Ranges.{HasRoomFor}
use Rattle.grid_laplacian.proofs.SizeCondition.{room_for_less}
use Rattle.sparse_factor.specs.Guesses.{IsGuess}
use Rattle.angle_bounds.specs.RightSides.{doubled, IsMade}
use Rattle.angle_bounds.proofs.Made.{doubled_size}

pub room_for_doubled : (s : GridState) (p : List ℤ) → HasRoomFor s 0 → IsMade s (doubled s) p (classes_of s) → HasRoomFor s (size_of p)
room_for_doubled s p room made = room_for_less s (size_of p) 0 (at_most (size_of p) (2 * total_susceptance_of s) (doubled_size s p made)) room
  where
    at_most : (x y : ℕ) → x ≡ y → x ≤ max 0 y
    at_most x y e = omega arith

pub guess_for_doubled : (s : GridState) (p w : List ℤ) → IsMade s (doubled s) p (classes_of s) → IsGuess s (2 * total_susceptance_of s) w → IsGuess s (size_of p) w
guess_for_doubled s p w made guess = subst (λ (n : ℕ). IsGuess s n w) (sym (doubled_size s p made)) guess
