use Rattle.std.proofs.Common.{sym, ◌∙◌}
use Rattle.grid_state.proofs.Stranded.{none_before, none_more, found_first, found_none}
use Rattle.grid_state.proofs.split.first_stranded.Goals as goal

pub loop-place-init : goal.loop-place-init
loop-place-init c = none_before c.args.state.now c.args.keyed.now c.args.nodes.now

pub loop-place-preserved : goal.loop-place-preserved
loop-place-preserved c =
    none_more c.args.state.now c.args.keyed.now c.args.nodes.now c.loop-place.place c.index-nodes-place.result c.loop-place-test.true c.index-nodes-place.is (sym c.is_stranded.ensures ∙ c.if-is_stranded.false) c.loop-place.invariant

pub returns-then-is_stranded : goal.returns-then-is_stranded
returns-then-is_stranded c =
    found_first c.args.state.now c.args.keyed.now c.args.nodes.now c.loop-place.place c.index-nodes-place.result c.loop-place-test.true c.index-nodes-place.is (sym c.is_stranded.ensures ∙ c.if-is_stranded.true) c.loop-place.invariant

pub returns : goal.returns
returns c = found_none c.args.state.now c.args.keyed.now c.args.nodes.now c.loop-place.place c.loop-place-test.false c.loop-place.invariant
