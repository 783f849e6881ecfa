use Rattle.domain_maker.proofs.Lists.{bounds_fit, is_box, rows_over}
use Rattle.domain_maker.proofs.removed.removed.Goals as goal

pub removed_rows-requires-clause-rows_over : goal.removed_rows-requires-clause-rows_over
removed_rows-requires-clause-rows_over c = rw c.in_ok-zones.ensures (rows_over c.args.inputs.now c.args.rows.now c.args.list c.requires.range)

pub removed_rows-requires-clause-bounds_in_range : goal.removed_rows-requires-clause-bounds_in_range
removed_rows-requires-clause-bounds_in_range c = rw c.in_ok-zones.ensures (bounds_fit c.args.inputs.now c.requires.whole)

pub removed_rows-requires-clause-is_box : goal.removed_rows-requires-clause-is_box
removed_rows-requires-clause-is_box c = rw c.in_ok-zones.ensures (is_box c.args.inputs.now c.requires.whole)
