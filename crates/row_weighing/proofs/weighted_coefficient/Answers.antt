use Rattle.std.proofs.Common.{◌^◌, pos, lit≤}
use Rattle.fb_types.specs.Domain.{coefficient_of}
use Rattle.row_weighing.proofs.Weighted.{one_more, so_far_within, coefficients_within}
use Rattle.row_weighing.proofs.weighted_coefficient.Goals as goal

pub overflow_mul-sum : goal.overflow_mul-sum
overflow_mul-sum c =
    (one_more (λ o. coefficient_of o c.args.zone) (10 ^ 12) c.args.rows.now c.args.mults.now c.loop-m.m-index (record { row = 0; value = pos 0 }) _ _ _ c.requires.weights (coefficients_within c.args.zones c.args.zone c.args.rows.now c.requires.over c.requires.zone_in) (lit≤ tt) c.loop-m-test.true c.loop-m.invariant c.coefficient_at.ensures c.from.ensures).0

pub overflow_add-sum : goal.overflow_add-sum
overflow_add-sum c =
    (one_more (λ o. coefficient_of o c.args.zone) (10 ^ 12) c.args.rows.now c.args.mults.now c.loop-m.m-index (record { row = 0; value = pos 0 }) _ _ _ c.requires.weights (coefficients_within c.args.zones c.args.zone c.args.rows.now c.requires.over c.requires.zone_in) (lit≤ tt) c.loop-m-test.true c.loop-m.invariant c.coefficient_at.ensures c.from.ensures).1

pub loop-m-preserved : goal.loop-m-preserved
loop-m-preserved c =
    (one_more (λ o. coefficient_of o c.args.zone) (10 ^ 12) c.args.rows.now c.args.mults.now c.loop-m.m-index (record { row = 0; value = pos 0 }) _ _ _ c.requires.weights (coefficients_within c.args.zones c.args.zone c.args.rows.now c.requires.over c.requires.zone_in) (lit≤ tt) c.loop-m-test.true c.loop-m.invariant c.coefficient_at.ensures c.from.ensures).2

pub returns-clause-small : goal.returns-clause-small
returns-clause-small c = so_far_within (λ o. coefficient_of o c.args.zone) (10 ^ 12) c.args.rows.now c.args.mults.now c.loop-m.m-index _ c.requires.weights (coefficients_within c.args.zones c.args.zone c.args.rows.now c.requires.over c.requires.zone_in) c.loop-m.invariant
