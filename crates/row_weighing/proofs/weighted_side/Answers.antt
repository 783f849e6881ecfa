use Rattle.std.proofs.Common.{◌*◌, ◌^◌, pos, lit≤}
use Rattle.fb_types.specs.Domain.{side_of}
use Rattle.row_weighing.proofs.Weighted.{one_more, so_far_within, sides_within}
use Rattle.row_weighing.proofs.weighted_side.Goals as goal

pub overflow_mul-sum : goal.overflow_mul-sum
overflow_mul-sum c =
    (one_more side_of (2 * 10 ^ 13) c.args.rows.now c.args.mults.now c.loop-m.m-index (record { row = 0; value = pos 0 }) _ _ _ c.requires.weights (sides_within c.args.rows.now c.requires.sides) (lit≤ tt) c.loop-m-test.true c.loop-m.invariant c.side_at.ensures c.from.ensures).0

pub overflow_add-sum : goal.overflow_add-sum
overflow_add-sum c =
    (one_more side_of (2 * 10 ^ 13) c.args.rows.now c.args.mults.now c.loop-m.m-index (record { row = 0; value = pos 0 }) _ _ _ c.requires.weights (sides_within c.args.rows.now c.requires.sides) (lit≤ tt) c.loop-m-test.true c.loop-m.invariant c.side_at.ensures c.from.ensures).1

pub loop-m-preserved : goal.loop-m-preserved
loop-m-preserved c =
    (one_more side_of (2 * 10 ^ 13) c.args.rows.now c.args.mults.now c.loop-m.m-index (record { row = 0; value = pos 0 }) _ _ _ c.requires.weights (sides_within c.args.rows.now c.requires.sides) (lit≤ tt) c.loop-m-test.true c.loop-m.invariant c.side_at.ensures c.from.ensures).2

pub returns-clause-small : goal.returns-clause-small
returns-clause-small c = so_far_within side_of (2 * 10 ^ 13) c.args.rows.now c.args.mults.now c.loop-m.m-index _ c.requires.weights (sides_within c.args.rows.now c.requires.sides) c.loop-m.invariant
