use Rattle.std.proofs.Common.{◌∙◌, sym}
use Rattle.std.proofs.lemmas.Bool.{OnTrue_at, OnFalse_at}
use Rattle.angle_sweeps.proofs.Round.{rises, stays, close_again, held}
use Rattle.angle_sweeps.proofs.sweep_round.Goals as goal
use Rattle.angle_sweeps.proofs.sweep_round.Goals.{then-is_free+then-raise, then-is_free+else-raise, else-is_free}

pub loop-class-preserved : goal.loop-class-preserved
loop-class-preserved c =
    let s = c.args.state.now in
    let p = c.args.p.now in
    let first = c.args.w.now in
    let k = c.loop-class.class in
    elim c.if-is_free.branch [
      | then-is_free+then-raise w ↦
          rw (w.w-is, w.rose-is)
          (rises s p first c.loop-class.w c.loop-class.rose k c.loop-class.invariant w.raise.new.w w.raise.ensures.under (OnTrue_at w.if-raise.true w.raise.ensures.rose))
      | then-is_free+else-raise w ↦
          let same = OnFalse_at w.if-raise.false w.raise.ensures.same in
          rw (w.w-is, w.rose-is, same)
          (stays s p first c.loop-class.w c.loop-class.rose k c.loop-class.invariant (close_again s p c.loop-class.w w.raise.new.w k same w.raise.ensures.close))
      | else-is_free w ↦
          rw (w.w-is, w.rose-is)
          (stays s p first c.loop-class.w c.loop-class.rose k c.loop-class.invariant (held s p c.loop-class.w k (sym c.is_free.ensures ∙ w.if-is_free.false)))
    ]
