use Rattle.fan_out.proofs.Answered.{answer_more}
use Rattle.fan_out.proofs.run_share.Goals as goal

pub loop-i-preserved : goal.loop-i-preserved
loop-i-preserved g c =
    rw c.in_ok-push.ensures.items
    (answer_more (g.W.Work.gives c.args.work.now) c.args.items.now c.loop-i.i c.index-items-i.result
    c.loop-i.outs.items c.run.result c.loop-i-test.true c.index-items-i.is c.loop-i.invariant c.run.ensures)
