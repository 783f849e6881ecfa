use Rattle.angle_bounds.specs.RightSides.{IsMade, doubled}
use Rattle.angle_bounds.proofs.barriers.doubled_susceptances.Given as goal

abbrev pub invariant-loop-class : goal.invariant-loop-class
invariant-loop-class l = IsMade l.state (doubled l.state) l.right_side.items l.class
