use Rattle.std.proofs.Common.{arith, ap, length}
use Rattle.grid_state.proofs.RowPieces.{length-cut_rows}
use Rattle.grid_state.proofs.flat_rows.FlatRows.len.Goals as goal

pub returns : goal.returns
returns c =
    let size = length-cut_rows 0 c.self.inside.ends.items c.self.inside.edges.items in let whole = ap length c.self.view_is in omega arith
