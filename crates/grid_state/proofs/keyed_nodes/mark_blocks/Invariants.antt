use Rattle.std.proofs.Common.{take}
use Rattle.grid_state.specs.Marks.{MarksMore}
use Rattle.grid_state.specs.Split.{is_keyed_in}
use Rattle.grid_state.proofs.keyed_nodes.mark_blocks.Given as goal

abbrev pub invariant-loop-block : goal.invariant-loop-block
invariant-loop-block l = MarksMore l.fn.marks l.marks (is_keyed_in (take l.block-index l.blocks))
