use Rattle.sparse_factor.specs.Bounds.{AreBounded}
use Rattle.sparse_factor.proofs.outages.Outage.angles_after.Given as goal

abbrev pub invariant-loop-class : goal.invariant-loop-class
invariant-loop-class l = AreBounded l.state l.limit l.angles.items l.class
