use Rattle.std.proofs.Common.{◌≡◌}
use Rattle.grid_laplacian.specs.Sizes.{greatest_below, free_susceptance_of}
use Rattle.grid_laplacian.proofs.sizes.greatest_susceptance.Given as goal

abbrev pub invariant-loop-class : goal.invariant-loop-class
invariant-loop-class l = l.greatest ≡ greatest_below l.class (free_susceptance_of l.state)
