use Rattle.std.proofs.Common.{◌≡◌}
use Rattle.grid_state.specs.GridState.{row_of}
use Rattle.grid_laplacian.specs.Sizes.{least_over, least_below}
use Rattle.grid_laplacian.proofs.sizes.least_susceptance.Given as goal

abbrev pub invariant-loop-class : goal.invariant-loop-class
invariant-loop-class l = l.least ≡ least_below l.class (λ i. least_over (row_of l.state i))
