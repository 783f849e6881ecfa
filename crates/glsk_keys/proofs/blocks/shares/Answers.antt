use Rattle.std.proofs.Common.{arith}
use Rattle.std.proofs.lemmas.Int.{to_z-of_z}
use Rattle.glsk_keys.proofs.SizeLaws.{shares_next}
use Rattle.glsk_keys.proofs.blocks.shares.Goals as goal

pub overflow_add-shares : goal.overflow_add-shares
overflow_add-shares c =
    let n = shares_next c.args.blocks.now c.loop-block.block-index c.block-item.result _ c.from-shares.result (omega arith) c.requires c.loop-block-test.true c.block-item.is c.loop-block.invariant c.from-shares.ensures in
    let f = n.0 in
    simp to_z-of_z n.1

pub loop-block-preserved : goal.loop-block-preserved
loop-block-preserved c =
    let n = shares_next c.args.blocks.now c.loop-block.block-index c.block-item.result _ c.from-shares.result (omega arith) c.requires c.loop-block-test.true c.block-item.is c.loop-block.invariant c.from-shares.ensures in
    let f = n.0 in
    let g = n.1 in
    simp to_z-of_z n.2
