use Rattle.std.proofs.Common.{arith}
use Rattle.grid_state.specs.GridState.{no_edge}
use Rattle.grid_laplacian.proofs.SizeLoops.{least_over-more}
use Rattle.grid_laplacian.proofs.sizes.least_in_row.Goals as goal
use Rattle.grid_laplacian.proofs.sizes.least_in_row.Goals.{then-edge-least, else-edge-least}

pub loop-edge-preserved : goal.loop-edge-preserved
loop-edge-preserved c =
    let more = least_over-more c.args.row.now c.loop-edge.edge-index no_edge c.loop-edge-test.true in
    let so_far = c.loop-edge.invariant in
    elim c.if-edge-least.branch [
      | then-edge-least w ↦ let lt = w.if-edge-least.true in rw w.least-is (omega arith)
      | else-edge-least w ↦ let le = w.if-edge-least.false in rw w.least-is (omega arith)
    ]
