use Rattle.std.proofs.Common.{rules}
use Rattle.std.proofs.lemmas.List.{with_items_is, places}
use Rattle.grid_state.proofs.RowFilling.{ends_stand, rows_stand}
use Rattle.grid_state.proofs.rows.filled_rows.Goals as goal

pub new-requires : goal.new-requires
new-requires c =
    rw (with_items_is c.args.starts c.fill_rows.new.cursors (search (rules, places)), with_items_is c.in_ok-edges.edges c.fill_rows.new.edges (search (rules, places)))
    (ends_stand c.args.live.now c.args.links.now c.fill_rows.new.cursors c.fill_rows.new.edges c.fill_rows.ensures)

pub returns : goal.returns
returns c =
    rw (c.new.ensures, with_items_is c.args.starts c.fill_rows.new.cursors (search (rules, places)), with_items_is c.in_ok-edges.edges c.fill_rows.new.edges (search (rules, places)))
    (rows_stand c.args.live.now c.args.links.now c.fill_rows.new.cursors c.fill_rows.new.edges c.fill_rows.ensures)
