use Rattle.std.proofs.Common.{◌≡◌, drop}
use Rattle.crac_model.specs.Thresholds.{smaller, smallest, directs, opposites}
use Rattle.crac_model.proofs.limits.tightest.Given as goal

abbrev pub invariant-loop-threshold : goal.invariant-loop-threshold
invariant-loop-threshold l = record {
  direct : smaller l.limits.direct (smallest (directs (drop l.threshold-index l.thresholds))) ≡ smallest (directs l.thresholds);
  opposite : smaller l.limits.opposite (smallest (opposites (drop l.threshold-index l.thresholds))) ≡ smallest (opposites l.thresholds);
}
