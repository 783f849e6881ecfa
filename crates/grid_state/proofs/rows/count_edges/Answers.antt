use Rattle.std.proofs.Common.{arith, sym, ◌∙◌}
use Rattle.grid_state.proofs.RowFilling.{count_small, one_small, widths_passed, widths_joined}
use Rattle.grid_state.proofs.rows.count_edges.Goals as goal
use Rattle.grid_state.proofs.rows.count_edges.Goals.{then-is_crossing, else-is_crossing}

pub count_one-requires-clause-small : goal.count_one-requires-clause-small
count_one-requires-clause-small c =
    let small = count_small c.args.live.now c.args.links.now c.loop-link.link-index c.loop-link.counts _ c.requires.few c.loop-link.invariant
    (c.requires.links.ones c.loop-link.link-index (record { one = 0; other = 0; b = 0 }) c.loop-link-test.true) in
    omega arith

pub count_one-requires-then-is_crossing-clause-small : goal.count_one-requires-then-is_crossing-clause-small
count_one-requires-then-is_crossing-clause-small c =
    let small = one_small c.args.live.now c.args.links.now c.loop-link.link-index (record { one = 0; other = 0; b = 0 }) c.loop-link.counts c.count_one.new.counts c.loop-link-test.true
    (sym c.is_crossing.ensures ∙ c.if-is_crossing.true) c.requires.few (c.requires.links.others c.loop-link.link-index (record { one = 0; other = 0; b = 0 }) c.loop-link-test.true)
    c.loop-link.invariant c.count_one.ensures in
    omega arith

pub loop-link-preserved : goal.loop-link-preserved
loop-link-preserved c =
    elim c.if-is_crossing.branch [
      | then-is_crossing w ↦
          rw w.counts-is
          (widths_joined c.args.live.now c.args.links.now c.loop-link.link-index (record { one = 0; other = 0; b = 0 }) c.loop-link.counts w.count_one.new.counts w.count_one-then-is_crossing.new.counts c.loop-link-test.true
          (sym c.is_crossing.ensures ∙ w.if-is_crossing.true)
          (c.requires.links.ones c.loop-link.link-index (record { one = 0; other = 0; b = 0 }) c.loop-link-test.true) (c.requires.links.others c.loop-link.link-index (record { one = 0; other = 0; b = 0 }) c.loop-link-test.true)
          c.loop-link.invariant w.count_one.ensures w.count_one-then-is_crossing.ensures)
      | else-is_crossing w ↦
          rw w.counts-is
          (widths_passed c.args.live.now c.args.links.now c.loop-link.link-index (record { one = 0; other = 0; b = 0 }) c.loop-link.counts c.loop-link-test.true (sym c.is_crossing.ensures ∙ w.if-is_crossing.false) c.loop-link.invariant)
    ]
