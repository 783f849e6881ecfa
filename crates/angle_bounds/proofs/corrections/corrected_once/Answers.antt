use Rattle.std.proofs.Common.{refl, ◌≡◌, ◌≤◌, ◌-◌, ◌^◌, ℕ, min, length, arith}
use Rattle.grid_state.specs.GridState.{classes_of}
use Rattle.grid_laplacian.specs.Sizes.{size_of}
use Rattle.angle_bounds.specs.RightSides.{AreMoved}
use Rattle.angle_bounds.proofs.Guessed.{room_for_left, moved_guess}
use Rattle.angle_bounds.proofs.corrections.corrected_once.Goals as goal

pub guess-requires-clause-room : goal.guess-requires-clause-room
guess-requires-clause-room c =
    let left = c.args.approach.now.left in
    let within : size_of left ≤ c.greater_total.result = rw c.as_slice-left.ensures.items at (c.if-is_total_within.ensures.0 refl) in
    room_for_left c.args.state.now (size_of c.args.p.now) c.total_of-total.result c.greater_total.result (size_of left) c.total_of-total.ensures c.greater_total.ensures within c.requires.room

least : (total size k : ℕ) → total ≡ min size k → total ≤ size
least total size k e = omega arith

pub approach_of-requires-clause-guess : goal.approach_of-requires-clause-guess
approach_of-requires-clause-guess c =
    let s = c.args.state.now in
    let w = c.args.approach.now.w in
    let guess = c.requires.approaches.guess in
    let size : length w ≡ classes_of s = guess.each_class in
    let moved : AreMoved c.limit_of-limit.result w c.in_ok-by.by c.in_ok-next.next (classes_of s) =
    rw size at (rw c.as_slice.ensures.items at (rw c.as_slice-then-is_total_within.ensures.items at c.in_ok-next.ensures)) in
    moved_guess s (size_of c.args.p.now) c.total_of-total.result (size_of c.args.approach.now.left) c.limit_of-limit.result w c.in_ok-by.by c.in_ok-next.next
    (least c.total_of-total.result (size_of c.args.p.now) (2 ^ 128 - 1) c.total_of-total.ensures) guess c.in_ok-by.ensures c.limit_of-limit.ensures moved
