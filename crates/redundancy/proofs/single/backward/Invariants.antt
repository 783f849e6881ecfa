use Rattle.std.proofs.Common.{◌≤◌, length}
use Rattle.redundancy.specs.Kept.{IsBackward}
use Rattle.redundancy.proofs.single.backward.Given as goal

abbrev pub invariant-loop-i : goal.invariant-loop-i
invariant-loop-i l = (l.i ≤ length l.rows) × IsBackward l.rows l.bounds l.kept l.i

abbrev pub decreases-loop-i : goal.decreases-loop-i
decreases-loop-i l = l.i
