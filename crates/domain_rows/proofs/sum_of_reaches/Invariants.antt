use Rattle.domain_rows.specs.FittingReaches.{zones_of}
use Rattle.domain_rows.proofs.Reaches.{SoFar}
use Rattle.domain_rows.proofs.sum_of_reaches.Given as goal

abbrev pub invariant-loop-zone : goal.invariant-loop-zone
invariant-loop-zone g l = SoFar (g.T.Scalar.whole g.T.Scalar.LOW) (g.T.Scalar.whole g.T.Scalar.HIGH) (zones_of l.factors l.a l.bounds) l.zone (g.T.Scalar.whole l.sum.0) (g.T.Scalar.whole l.sum.1)
