use Rattle.std.proofs.Common.{arith, ap, length}
use Rattle.grid_state.proofs.RowPieces.{length-cut_rows}
use Rattle.grid_state.proofs.flat_rows.FlatRows.row.Goals as goal

pub row_in-requires-clause-class : goal.row_in-requires-clause-class
row_in-requires-clause-class c =
    rw c.deref-2.ensures.value
    (let size = length-cut_rows 0 c.self.inside.ends.items c.self.inside.edges.items in let whole = ap length c.self.view_is in omega arith)
