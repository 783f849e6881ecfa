use Rattle.angle_bounds.specs.RightSides.{IsDifference}
use Rattle.angle_bounds.proofs.swept.difference.Given as goal

abbrev pub invariant-loop-i : goal.invariant-loop-i
invariant-loop-i l = IsDifference l.a l.b l.w l.i
