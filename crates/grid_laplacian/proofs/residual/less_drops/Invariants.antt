use Rattle.std.proofs.Common.{◌≡◌, ◌-ℤ◌, take}
use Rattle.whole_laws.specs.Sums.{at}
use Rattle.grid_laplacian.specs.Laws.{drop_over}
use Rattle.grid_laplacian.proofs.residual.less_drops.Given as goal

abbrev pub invariant-loop-edge : goal.invariant-loop-edge
invariant-loop-edge l = l.left ≡ l.start -ℤ drop_over (take l.edge-index l.row) (at l.w) l.here
