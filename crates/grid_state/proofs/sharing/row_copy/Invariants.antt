use Rattle.std.proofs.Common.{◌≡◌, take}
use Rattle.grid_state.proofs.sharing.row_copy.Given as goal

abbrev pub invariant-loop-edge : goal.invariant-loop-edge
invariant-loop-edge l = l.copy.items ≡ take l.edge-index l.row
