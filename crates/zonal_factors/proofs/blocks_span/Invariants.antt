use Rattle.std.specs.List.{zip}
use Rattle.branch_spans.specs.FlowSpans.{ForBranch}
use Rattle.zonal_factors.specs.SharedSpans.{sums_of, parts_of}
use Rattle.zonal_factors.proofs.Fits.{SoFar}
use Rattle.zonal_factors.proofs.blocks_span.Given as goal

abbrev pub invariant-loop-place : goal.invariant-loop-place
invariant-loop-place g l =
    ForBranch l.grid l.branch (λ c. SoFar (g.T.Scalar.whole g.T.Scalar.LOW) (g.T.Scalar.whole g.T.Scalar.HIGH) (parts_of l.state c l.barrier (zip l.blocks l.angles)) l.place (sums_of g.T.Scalar.whole l.sum.total l.sum.weight))
