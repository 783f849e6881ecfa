use Rattle.std.proofs.Common.{arith}
use Rattle.std.proofs.lemmas.Int.{ints}
use Rattle.grid_state.specs.GridState.{no_edge}
use Rattle.grid_state.proofs.RowLists.{susceptance_over-more}
use Rattle.grid_state.proofs.rows.row_sum.Goals as goal

pub loop-edge-preserved : goal.loop-edge-preserved
loop-edge-preserved c =
    let more = susceptance_over-more c.args.row.now c.loop-edge.edge-index no_edge c.loop-edge-test.true in
    let so_far = c.loop-edge.invariant.so_far in
    let small = c.loop-edge.invariant.small in
    let term = c.from-sum.ensures in
    record { so_far = omega (arith, ints); small = omega (arith, ints) }
