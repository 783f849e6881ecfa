use Rattle.angle_bounds.specs.RightSides.{IsSum}
use Rattle.angle_bounds.proofs.swept.sums.Given as goal

abbrev pub invariant-loop-i : goal.invariant-loop-i
invariant-loop-i l = IsSum l.a l.b l.w l.i
