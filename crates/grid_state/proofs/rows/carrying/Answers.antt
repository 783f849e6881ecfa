use Rattle.std.proofs.Common.{sym, ◌∙◌}
use Rattle.grid_state.proofs.LinkLists.{carries_more, carries_all}
use Rattle.grid_state.proofs.rows.carrying.Goals as goal

pub loop-number-preserved : goal.loop-number-preserved
loop-number-preserved c =
    rw (c.in_ok-push.ensures.items, c.carries.ensures, c.loop-number.invariant)
    (sym (carries_more c.args.out.now c.args.class_of.now c.args.live.now c.args.branches.now c.loop-number.number c.index-branches-number.result c.loop-number-test.true c.index-branches-number.is))

pub returns : goal.returns
returns c = c.loop-number.invariant ∙ carries_all c.args.out.now c.args.class_of.now c.args.live.now c.args.branches.now c.loop-number.number c.loop-number-test.false
