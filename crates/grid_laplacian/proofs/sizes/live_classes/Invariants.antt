use Rattle.std.proofs.Common.{◌≡◌, ◌≤◌, cond}
use Rattle.whole_laws.specs.Sums.{total_below}
use Rattle.grid_state.specs.GridState.{is_live}
use Rattle.grid_laplacian.proofs.sizes.live_classes.Given as goal

abbrev pub invariant-loop-class : goal.invariant-loop-class
invariant-loop-class l = record { so_far : l.live ≡ total_below l.class (λ i. cond (is_live l.state i) 1 0); few : l.live ≤ l.class }
