use Rattle.angle_bounds.specs.Approaches.{Approaches}
use Rattle.angle_bounds.proofs.corrections.corrected.Given as goal

abbrev pub invariant-loop-turn : goal.invariant-loop-turn
invariant-loop-turn l = Approaches l.state l.p l.approach
