use Rattle.angle_bounds.specs.RightSides.{AreMoved}
use Rattle.angle_bounds.proofs.corrections.all_moved.Given as goal

abbrev pub invariant-loop-i : goal.invariant-loop-i
invariant-loop-i l = AreMoved l.limit l.w l.by l.next.items l.i
