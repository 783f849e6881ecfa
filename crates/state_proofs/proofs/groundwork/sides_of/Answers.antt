use Rattle.std.proofs.Common.{arith}
use Rattle.state_proofs.proofs.Rooms.{room_for}
use Rattle.state_proofs.proofs.groundwork.sides_of.Goals as goal

pub barrier_side-requires : goal.barrier_side-requires
barrier_side-requires c = room_for c.args.state.now 0 c.requires.range.room (omega arith)
