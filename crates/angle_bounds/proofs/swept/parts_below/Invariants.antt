use Rattle.angle_bounds.specs.RightSides.{IsMade, part_below}
use Rattle.angle_bounds.proofs.swept.parts_below.Given as goal

abbrev pub invariant-loop-class : goal.invariant-loop-class
invariant-loop-class l = IsMade l.state (part_below l.p) l.parts l.class
