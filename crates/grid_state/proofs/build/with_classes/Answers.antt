use Rattle.std.proofs.Common.{arith, ap, length}
use Rattle.grid_state.proofs.Building.{parts_lines_below, few_lines, few_classes, parts_short_rows, parts_state, parts_kept}
use Rattle.grid_state.proofs.build.with_classes.Goals as goal

pub live_classes-requires-clause-lines : goal.live_classes-requires-clause-lines
live_classes-requires-clause-lines c = parts_lines_below _ _ _ _ _ _ _ c.requires

pub rows-requires-clause-links : goal.rows-requires-clause-links
rows-requires-clause-links c = rw (c.deref.ensures.value, c.in_ok-live.ensures.size) (parts_lines_below _ _ _ _ _ _ _ c.requires)

pub rows-requires-clause-few_classes : goal.rows-requires-clause-few_classes
rows-requires-clause-few_classes c = rw (c.deref.ensures.value, c.in_ok-live.ensures.size) (few_classes _ _ _ _ _ _ _ c.requires)

pub rows-requires-clause-few_links : goal.rows-requires-clause-few_links
rows-requires-clause-few_links c = few_lines _ _ _ _ _ _ _ c.requires

pub row_sums-requires-clause-short : goal.row_sums-requires-clause-short
row_sums-requires-clause-short c = parts_short_rows _ _ _ _ _ _ _ c.requires c.deref.result.now c.in_ok-rows.rows c.in_ok-rows.ensures

pub row_sums-requires-clause-few : goal.row_sums-requires-clause-few
row_sums-requires-clause-few c =
    let few = few_classes _ _ _ _ _ _ _ c.requires in
    let size = c.in_ok-rows.ensures.each_class in
    let same = ap length c.deref.ensures.value in
    let live = c.in_ok-live.ensures.size in
    omega arith

pub new-requires : goal.new-requires
new-requires c =
    parts_kept _ _ _ _ _ _ _ c.requires c.index-slack.result.now c.index-slack.ensures c.in_ok-live.live.items c.in_ok-rows.rows c.in_ok-carries.carries.items c.in_ok-sums.sums.items
    c.in_ok-live.ensures (rw c.deref.ensures.value at c.in_ok-rows.ensures) (rw (c.deref-2.ensures.value, c.deref-3.ensures.value, c.as_slice.ensures.items) at c.in_ok-carries.ensures)
    c.in_ok-sums.ensures

pub returns : goal.returns
returns c =
    rw c.new.ensures
    (parts_state _ _ _ _ _ _ _ c.requires c.index-slack.result.now c.index-slack.ensures c.in_ok-live.live.items c.in_ok-rows.rows c.in_ok-carries.carries.items
    c.in_ok-live.ensures (rw c.deref.ensures.value at c.in_ok-rows.ensures) (rw (c.deref-2.ensures.value, c.deref-3.ensures.value, c.as_slice.ensures.items) at c.in_ok-carries.ensures))
