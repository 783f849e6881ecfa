use Rattle.std.proofs.Common.{sym, ◌∙◌}
use Rattle.grid_state.specs.declared.links.Link.{Link}
use Rattle.grid_state.proofs.RowFilling.{filled_passed, within_one, within_other, filled_half, filled_joined}
use Rattle.grid_state.proofs.rows.fill_rows.Goals as goal
use Rattle.grid_state.proofs.rows.fill_rows.Goals.{then-is_crossing, else-is_crossing}

abbrev no_link : Link
no_link = record { one = 0; other = 0; b = 0 }

pub put_edge-requires-clause-place : goal.put_edge-requires-clause-place
put_edge-requires-clause-place c =
    within_one c.args.live.now c.args.links.now c.loop-link.link-index no_link c.loop-link-test.true (sym c.is_crossing.ensures ∙ c.if-is_crossing.true)
    (c.requires.links.ones c.loop-link.link-index no_link c.loop-link-test.true) (c.requires.links.others c.loop-link.link-index no_link c.loop-link-test.true)
    c.loop-link.cursors c.loop-link.edges c.loop-link.invariant

pub put_edge-requires-then-is_crossing-clause-place : goal.put_edge-requires-then-is_crossing-clause-place
put_edge-requires-then-is_crossing-clause-place c =
    within_other c.args.live.now c.args.links.now c.loop-link.link-index no_link c.loop-link-test.true (sym c.is_crossing.ensures ∙ c.if-is_crossing.true)
    (c.requires.links.ones c.loop-link.link-index no_link c.loop-link-test.true) (c.requires.links.others c.loop-link.link-index no_link c.loop-link-test.true)
    c.loop-link.cursors c.loop-link.edges c.loop-link.invariant c.put_edge.new.cursors c.put_edge.new.edges
    (filled_half c.args.live.now c.args.links.now c.loop-link.link-index no_link c.loop-link-test.true (sym c.is_crossing.ensures ∙ c.if-is_crossing.true)
    (c.requires.links.ones c.loop-link.link-index no_link c.loop-link-test.true) (c.requires.links.others c.loop-link.link-index no_link c.loop-link-test.true)
    c.loop-link.cursors c.loop-link.edges c.loop-link.invariant c.put_edge.new.cursors c.put_edge.new.edges c.put_edge.ensures.cursors c.put_edge.ensures.edges)

pub loop-link-preserved : goal.loop-link-preserved
loop-link-preserved c =
    elim c.if-is_crossing.branch [
      | then-is_crossing w ↦
          rw (w.cursors-is, w.edges-is)
          (filled_joined c.args.live.now c.args.links.now c.loop-link.link-index no_link c.loop-link-test.true (sym c.is_crossing.ensures ∙ w.if-is_crossing.true)
          (c.requires.links.ones c.loop-link.link-index no_link c.loop-link-test.true) (c.requires.links.others c.loop-link.link-index no_link c.loop-link-test.true)
          c.loop-link.cursors c.loop-link.edges c.loop-link.invariant w.put_edge.new.cursors w.put_edge-then-is_crossing.new.cursors w.put_edge.new.edges w.put_edge-then-is_crossing.new.edges
          (filled_half c.args.live.now c.args.links.now c.loop-link.link-index no_link c.loop-link-test.true (sym c.is_crossing.ensures ∙ w.if-is_crossing.true)
          (c.requires.links.ones c.loop-link.link-index no_link c.loop-link-test.true) (c.requires.links.others c.loop-link.link-index no_link c.loop-link-test.true)
          c.loop-link.cursors c.loop-link.edges c.loop-link.invariant w.put_edge.new.cursors w.put_edge.new.edges w.put_edge.ensures.cursors w.put_edge.ensures.edges)
          w.put_edge-then-is_crossing.ensures.cursors w.put_edge-then-is_crossing.ensures.edges)
      | else-is_crossing w ↦
          rw (w.cursors-is, w.edges-is)
          (filled_passed c.args.live.now c.args.links.now c.loop-link.link-index no_link c.loop-link.cursors c.loop-link.edges c.loop-link-test.true (sym c.is_crossing.ensures ∙ w.if-is_crossing.false) c.loop-link.invariant)
    ]
