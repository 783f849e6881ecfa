use Rattle.std.proofs.Common.{arith}
use Rattle.redundancy.proofs.Keeping.{forward_step}
use Rattle.redundancy.proofs.single.forward.Goals as goal

pub loop-k-preserved : goal.loop-k-preserved
loop-k-preserved c =
    let e = c.is_new-new.ensures in
    forward_step c.args.rows.now c.args.bounds.now c.loop-k.kept c.loop-k.k c.is_new-new.result (omega (arith, c.requires.each, c.loop-k.auto.kept, c.loop-k-test.true)) c.loop-k.invariant e.new e.old
