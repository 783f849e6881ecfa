use Rattle.std.proofs.lemmas.List.{with_items_is, places}
use Rattle.std.proofs.Common.{rules}
use Rattle.grid_state.proofs.RowFilling.{few_before, starts_stand}
use Rattle.grid_state.proofs.rows.rows.Goals as goal

pub starts_of-total-requires : goal.starts_of-total-requires
starts_of-total-requires c = rw c.deref_mut.ensures.value (few_before c.args.live.now c.args.links.now c.in_ok-starts.starts.items c.in_ok-starts.ensures c.requires.few_classes c.requires.few_links)

pub filled_rows-requires-clause-starts : goal.filled_rows-requires-clause-starts
filled_rows-requires-clause-starts c =
    rw (with_items_is c.in_ok-starts.starts c.starts_of-total.new.counts (search (rules, places)))
    (starts_stand c.args.live.now c.args.links.now c.in_ok-starts.starts.items c.in_ok-starts.ensures c.starts_of-total.new.counts c.starts_of-total.result (rw c.deref_mut.ensures.value at c.starts_of-total.ensures))
