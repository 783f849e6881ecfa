use Rattle.std.proofs.Common.{List, subst}
use Rattle.std.proofs.lemmas.List.{take_all}
use Rattle.fb_types.specs.declared.keys.Block.{Block}
use Rattle.state_proofs.specs.Enclosed.{AddsEnclosed}
use Rattle.state_proofs.proofs.Joined.{none_added, block_added}
use Rattle.state_proofs.proofs.columns.add_blocks.Goals as goal

pub loop-block-init : goal.loop-block-init
loop-block-init c = none_added c.args.state.now c.args.enclosed.now

pub loop-block-preserved : goal.loop-block-preserved
loop-block-preserved c =
    rw c.in_ok-add.ensures.pushed
    (block_added c.args.state.now c.args.blocks.now c.loop-block.block-index c.block-item.result c.args.enclosed.now c.loop-block.enclosed c.in_ok-angles.angles c.loop-block-test.true c.block-item.is
    c.loop-block.invariant c.in_ok-angles.ensures)

pub returns : goal.returns
returns c =
    subst (λ (bs : List Block). AddsEnclosed c.args.state.now bs c.args.enclosed.now c.loop-block.enclosed) (take_all c.loop-block.block-index c.args.blocks.now c.loop-block-test.false) c.loop-block.invariant
