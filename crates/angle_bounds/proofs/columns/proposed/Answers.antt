use Rattle.std.proofs.Common.{refl, ◌≡◌, ◌≤◌, ◌-◌, ◌^◌, min}
use Rattle.grid_laplacian.specs.Sizes.{size_of}
use Rattle.angle_bounds.proofs.Guessed.{room_for_left}
use Rattle.angle_bounds.proofs.columns.proposed.Goals as goal

pub swept_on-requires-clause-room_left : goal.swept_on-requires-clause-room_left
swept_on-requires-clause-room_left c =
    let left = c.args.approach.now.left in
    let within : size_of left ≤ c.greater_total-most.result = rw c.as_slice-2.ensures.items at (c.if-is_total_within.ensures.0 refl) in
    let total : c.total_of.result ≡ min (size_of c.args.p.now) (2 ^ 128 - 1) = rw c.as_slice.ensures.items at c.total_of.ensures in
    room_for_left c.args.state.now (size_of c.args.p.now) c.total_of.result c.greater_total-most.result (size_of left) total c.greater_total-most.ensures within c.requires.room
