use Rattle.grid_state.proofs.Trees.{labels_more_root, labels_more_under}
use Rattle.grid_state.proofs.components.labelled.Goals as goal
use Rattle.grid_state.proofs.components.labelled.Goals.{then-above-place+in_ok-push, else-above-place+in_ok-push-2}

pub loop-place-preserved : goal.loop-place-preserved
loop-place-preserved c =
    elim c.if-above-place.branch [
      | then-above-place+in_ok-push w ↦
          rw (w.class_of-is, w.count-is, w.in_ok-push.ensures.items)
          (labels_more_root c.args.up.now c.loop-place.class_of.items c.loop-place.count c.loop-place.place c.loop-place.invariant c.requires.points c.loop-place-test.true w.if-above-place.true)
      | else-above-place+in_ok-push-2 w ↦
          rw (w.class_of-is, w.count-is, w.in_ok-push-2.ensures.items)
          (labels_more_under c.args.up.now c.loop-place.class_of.items c.loop-place.count c.loop-place.place w.index-class.result.now c.loop-place.invariant c.requires.points c.loop-place-test.true w.if-above-place.false w.index-class.ensures)
    ]
