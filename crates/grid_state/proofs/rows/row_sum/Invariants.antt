use Rattle.std.proofs.Common.{◌≡◌, ◌≤◌, ◌*◌, ◌^◌, pos, take}
use Rattle.grid_state.specs.GridState.{susceptance_over}
use Rattle.grid_state.proofs.rows.row_sum.Given as goal

abbrev pub invariant-loop-edge : goal.invariant-loop-edge
invariant-loop-edge l = record { so_far : l.sum ≡ pos (susceptance_over (take l.edge-index l.row)); small : susceptance_over (take l.edge-index l.row) ≤ l.edge-index * 2 ^ 64 }
