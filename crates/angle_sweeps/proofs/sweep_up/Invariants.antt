use Rattle.std.proofs.Common.{◌-◌}
use Rattle.grid_laplacian.specs.Sizes.{size_of}
use Rattle.angle_sweeps.specs.Sweeps.{IsUnder}
use Rattle.angle_sweeps.proofs.Start.{most}
use Rattle.angle_sweeps.proofs.sweep_up.Given as goal

abbrev pub invariant-loop-p : goal.invariant-loop-p
invariant-loop-p l = IsUnder l.state l.p l.w.items

abbrev pub decreases-loop-p : goal.decreases-loop-p
decreases-loop-p l = most l.state l.p - size_of l.w.items
