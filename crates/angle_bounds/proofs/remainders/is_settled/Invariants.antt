use Rattle.angle_bounds.specs.RightSides.{IsAtMostOne}
use Rattle.angle_bounds.proofs.remainders.is_settled.Given as goal

abbrev pub invariant-loop-class : goal.invariant-loop-class
invariant-loop-class l = IsAtMostOne l.state l.left l.class
