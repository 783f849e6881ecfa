use Rattle.angle_bounds.specs.RightSides.{IsMade, part_above}
use Rattle.angle_bounds.proofs.swept.parts_above.Given as goal

abbrev pub invariant-loop-class : goal.invariant-loop-class
invariant-loop-class l = IsMade l.state (part_above l.p) l.parts l.class
