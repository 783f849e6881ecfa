use Rattle.std.proofs.Common.{◌≡◌, ◌+◌, take}
use Rattle.grid_laplacian.specs.Sizes.{size_of}
use Rattle.angle_bounds.proofs.remainders.is_total_within.Given as goal

abbrev pub invariant-loop-z : goal.invariant-loop-z
invariant-loop-z l = size_of (take l.z-index l.left) + l.rest ≡ l.most
