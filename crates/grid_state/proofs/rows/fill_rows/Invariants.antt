use Rattle.std.proofs.Common.{take, length}
use Rattle.grid_state.specs.RowCuts.{width_seen, row_seen, AreFilled}
use Rattle.grid_state.proofs.rows.fill_rows.Given as goal

abbrev pub invariant-loop-link : goal.invariant-loop-link
invariant-loop-link l = AreFilled (length l.live) (width_seen l.live l.links) (row_seen l.live (take l.link-index l.links)) l.cursors l.edges
