use Rattle.phase_rule.proofs.Series.{SineSoFar}
use Rattle.phase_rule.proofs.trigonometry.series_sine.Given as goal

abbrev pub invariant-loop-pair : goal.invariant-loop-pair
invariant-loop-pair l = SineSoFar l.x l.pair l.sum l.term
