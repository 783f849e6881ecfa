use Rattle.std.proofs.Common.{◌≡◌, ◌*◌, ◌^◌}
use Rattle.whole_laws.specs.Sums.{IsWithin}
use Rattle.redundancy.specs.Points.{value_below}
use Rattle.redundancy.proofs.points.value_of.Given as goal

abbrev pub invariant-loop-z : goal.invariant-loop-z
invariant-loop-z l = (l.sum ≡ value_below l.row l.x l.z) × IsWithin (10 ^ 23 * l.z) l.sum
