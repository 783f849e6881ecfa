use Rattle.std.proofs.Common.{◌≡◌, take}
use Rattle.grid_laplacian.specs.Sizes.{least_over}
use Rattle.grid_laplacian.proofs.sizes.least_in_row.Given as goal

abbrev pub invariant-loop-edge : goal.invariant-loop-edge
invariant-loop-edge l = l.least ≡ least_over (take l.edge-index l.row)
