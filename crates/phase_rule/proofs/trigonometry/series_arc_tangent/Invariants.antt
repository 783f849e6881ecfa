use Rattle.phase_rule.proofs.Series.{ArcSoFar}
use Rattle.phase_rule.proofs.trigonometry.series_arc_tangent.Given as goal

abbrev pub invariant-loop-pair : goal.invariant-loop-pair
invariant-loop-pair l = ArcSoFar l.u l.pair l.sum l.power
