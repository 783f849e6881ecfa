use Rattle.std.proofs.Common.{arith, length}
use Rattle.std.specs.Prelude.{slice_index}
use Rattle.grid_state.proofs.RowFilling.{before_later}
use Rattle.grid_state.proofs.rows.starts_of.Goals as goal

pub overflow_add-start : goal.overflow_add-start
overflow_add-start c =
    let later = before_later (slice_index c.args.counts.now) c.loop-place.place-index (length c.args.counts.now) (let test = c.loop-place-test.true in let size = c.loop-place.auto.counts in omega arith) in
    let sum = c.loop-place.invariant.sum in
    let here = c.loop-place.invariant.left c.loop-place.place-index (omega arith) in
    let few = c.requires in
    omega arith
