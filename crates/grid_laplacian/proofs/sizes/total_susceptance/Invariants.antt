use Rattle.std.proofs.Common.{◌≡◌, ◌≤◌, ◌*◌}
use Rattle.whole_laws.specs.Sums.{total_below}
use Rattle.grid_laplacian.specs.Sizes.{free_susceptance_of}
use Rattle.grid_laplacian.proofs.sizes.total_susceptance.Given as goal

abbrev pub invariant-loop-class : goal.invariant-loop-class
invariant-loop-class l = record { so_far : l.total ≡ total_below l.class (free_susceptance_of l.state); small : total_below l.class (free_susceptance_of l.state) ≤ l.class * (16384 * 100000000000) }
