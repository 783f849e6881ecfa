use Rattle.crac_model.proofs.LimitLaws.{direct_step, opposite_step}
use Rattle.crac_model.proofs.limits.tightest.Goals as goal

pub loop-threshold-preserved : goal.loop-threshold-preserved
loop-threshold-preserved c = record {
  direct = direct_step _ _ _ _ _ _ c.loop-threshold-test.true c.smaller.ensures c.loop-threshold.invariant.direct;
  opposite = opposite_step _ _ _ _ _ _ c.loop-threshold-test.true c.smaller-in-loop-threshold.ensures c.loop-threshold.invariant.opposite;
}
