use Rattle.std.proofs.Common.{ℕ, ◌<◌, refl}
use Rattle.grid_state.specs.GridState.{classes_of}
use Rattle.grid_laplacian.specs.Sizes.{size_of}
use Rattle.angle_bounds.specs.RightSides.{IsBarrierAt}
use Rattle.angle_bounds.specs.Approaches.{Approaches}
use Rattle.angle_bounds.proofs.Doubled.{room_for_doubled, guess_for_doubled}
use Rattle.angle_bounds.proofs.Guessed.{barrier_at_all}
use Rattle.angle_bounds.proofs.barriers.try_barrier_from.Goals as goal

pub corrected-requires-clause-room : goal.corrected-requires-clause-room
corrected-requires-clause-room c = rw c.as_slice.ensures.items (room_for_doubled c.args.state.now c.in_ok-right_side.right_side c.requires.room c.in_ok-right_side.ensures)

pub corrected-requires-clause-guess : goal.corrected-requires-clause-guess
corrected-requires-clause-guess c = rw c.as_slice.ensures.items (guess_for_doubled c.args.state.now c.in_ok-right_side.right_side c.args.guess c.in_ok-right_side.ensures c.requires.guess)

pub returns-then-is_barrier : goal.returns-then-is_barrier
returns-then-is_barrier c =
    let s = c.args.state.now in
    let p = c.in_ok-right_side.right_side in
    let a = c.in_ok-approach.approach in
    let approaches : Approaches s p a = rw c.as_slice.ensures.items at c.in_ok-approach.ensures in
    let each : (i : ℕ) → i < classes_of s → IsBarrierAt s a.w a.left i = rw c.as_slice-3.ensures.items at (rw c.as_slice-2.ensures.items at (c.if-is_barrier.ensures refl)) in
    barrier_at_all s p a.w a.left (size_of p) approaches.guess c.in_ok-right_side.ensures approaches.left each
