use Rattle.std.proofs.Common.{take}
use Rattle.grid_state.specs.Marks.{MarksMore}
use Rattle.grid_state.specs.Split.{is_weighted}
use Rattle.grid_state.proofs.keyed_nodes.mark_weights.Given as goal

abbrev pub invariant-loop-weight : goal.invariant-loop-weight
invariant-loop-weight l = MarksMore l.fn.marks l.marks (is_weighted (take l.weight-index l.weights))
