use Rattle.std.proofs.Common.{sym, ◌∙◌}
use Rattle.grid_state.proofs.LinkLists.{links_chosen, links_passed, links_all}
use Rattle.grid_state.proofs.links.links.Goals as goal
use Rattle.grid_state.proofs.links.links.Goals.{then-is_chosen+in_ok-push, else-is_chosen}

pub loop-number-preserved : goal.loop-number-preserved
loop-number-preserved c =
    elim c.if-is_chosen.branch [
      | then-is_chosen+in_ok-push w ↦
          rw (w.chosen-is, w.in_ok-push.ensures.items, w.link_of.ensures, c.loop-number.invariant)
          (sym (links_chosen c.args.couplers c.args.out.now c.args.branches.now c.loop-number.number c.index-branches-number.result c.loop-number-test.true c.index-branches-number.is (sym c.is_chosen.ensures ∙ w.if-is_chosen.true)))
      | else-is_chosen w ↦
          rw (w.chosen-is, c.loop-number.invariant)
          (sym (links_passed c.args.couplers c.args.out.now c.args.branches.now c.loop-number.number c.index-branches-number.result c.loop-number-test.true c.index-branches-number.is (sym c.is_chosen.ensures ∙ w.if-is_chosen.false)))
    ]

pub returns : goal.returns
returns c = c.loop-number.invariant ∙ links_all c.args.couplers c.args.out.now c.args.branches.now c.loop-number.number c.loop-number-test.false
