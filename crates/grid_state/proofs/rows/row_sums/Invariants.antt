use Rattle.std.proofs.Common.{take}
use Rattle.grid_state.specs.GridState.{AreSums}
use Rattle.grid_state.proofs.rows.row_sums.Given as goal

abbrev pub invariant-loop-class : goal.invariant-loop-class
invariant-loop-class l = AreSums (take l.class l.rows) l.sums.items
