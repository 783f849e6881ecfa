use Rattle.std.proofs.lemmas.Bool.{iff_false}
use Rattle.run_inputs.proofs.BuildLaws.{in_range-more, in_range-all, outside-first}
use Rattle.run_inputs.proofs.range.first_out_of_range.Goals as goal

pub loop-number-preserved : goal.loop-number-preserved
loop-number-preserved c =
    in_range-more c.args.grid.now c.args.states.now c.loop-number.number c.index-states-number.result c.loop-number-test.true c.index-states-number.is (c.range_ok.ensures.rule.0 c.if-not-range_ok.false) c.loop-number.invariant

pub returns-then-not-range_ok : goal.returns-then-not-range_ok
returns-then-not-range_ok c =
    outside-first c.args.grid.now c.args.states.now c.loop-number.number c.index-states-number.result c.loop-number-test.true c.index-states-number.is (iff_false c.range_ok.ensures.rule c.if-not-range_ok.true) c.loop-number.invariant

pub returns : goal.returns
returns c = in_range-all c.args.grid.now c.args.states.now c.loop-number.number c.loop-number-test.false c.loop-number.invariant
