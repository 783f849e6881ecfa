use Rattle.std.proofs.Common.{take}
use Rattle.grid_state.specs.RowCuts.{AreWidths}
use Rattle.grid_state.proofs.rows.count_edges.Given as goal

abbrev pub invariant-loop-link : goal.invariant-loop-link
invariant-loop-link l = AreWidths l.live (take l.link-index l.links) l.counts
