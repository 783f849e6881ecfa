use Rattle.std.proofs.Common.{sym}
use Rattle.grid_state.proofs.RowPieces.{get_or-cut_rows}
use Rattle.grid_state.proofs.flat_rows.row_in.Goals as goal

pub returns : goal.returns
returns c = rw c.start_in-start.ensures (sym (get_or-cut_rows 0 c.args.ends.now c.args.edges.now c.args.class c.requires.class))
