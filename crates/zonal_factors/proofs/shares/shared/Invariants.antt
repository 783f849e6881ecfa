use Rattle.std.specs.List.{zip}
use Rattle.zonal_factors.specs.SharedSpans.{sums_of}
use Rattle.zonal_factors.proofs.Fits.{SoFar}
use Rattle.zonal_factors.proofs.shares.shared.Given as goal

abbrev pub invariant-loop-place : goal.invariant-loop-place
invariant-loop-place g l = SoFar (g.T.Scalar.whole g.T.Scalar.LOW) (g.T.Scalar.whole g.T.Scalar.HIGH) (zip l.parts l.shares) l.place (sums_of g.T.Scalar.whole l.sum.total l.sum.weight)
