use Rattle.std.proofs.Common.{arith}
use Rattle.state_proofs.proofs.Rooms.{room_for}
use Rattle.state_proofs.proofs.proof_by.Goals as goal

pub barrier_by-requires-clause-room : goal.barrier_by-requires-clause-room
barrier_by-requires-clause-room c = room_for c.args.state.now 0 c.requires.range.room (omega arith)

pub returns : goal.returns
returns c = record {
  proof = record {
    barrier = c.in_ok-barrier.ensures;
    reference = c.in_ok-reference.ensures;
    blocks = rw c.as_slice.ensures.items at c.in_ok-blocks.ensures;
  };
}
