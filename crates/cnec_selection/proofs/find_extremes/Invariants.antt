use Rattle.cnec_selection.proofs.Ends.{AreExtremesSoFar}
use Rattle.cnec_selection.proofs.find_extremes.Given as goal

abbrev pub invariant-loop-factor : goal.invariant-loop-factor
invariant-loop-factor g l = AreExtremesSoFar g.T.Scalar.whole (g.T.Scalar.whole g.T.Scalar.LOW) (g.T.Scalar.whole g.T.Scalar.HIGH) l.factors l.factor-index l.greatest l.least
