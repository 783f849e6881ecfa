use Rattle.std.proofs.Common.{take}
use Rattle.grid_state.specs.Marks.{MarksMore}
use Rattle.grid_state.specs.Split.{is_keyed}
use Rattle.grid_state.proofs.keyed_nodes.mark_columns.Given as goal

abbrev pub invariant-loop-column : goal.invariant-loop-column
invariant-loop-column l = MarksMore l.fn.marks l.marks (is_keyed (take l.column-index l.columns))
