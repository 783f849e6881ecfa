use Rattle.std.proofs.Common.{◌<◌, ◌∙◌, rules}
use Rattle.run_inputs.proofs.MarkLaws.{named-none, named-more_some}
use Rattle.run_inputs.proofs.outages.named.Goals as goal

pub loop-element-init : goal.loop-element-init
loop-element-init c = c.in_ok-marks.ensures.items_if_clones_equal (λ y e. e) ∙ named-none c.args.contingencies

pub loop-element-preserved : goal.loop-element-preserved
loop-element-preserved c =
    let below : c.in-Some.contingency < c.args.contingencies = search rules in
    named-more_some c.args.contingencies c.args.elements.now c.loop-element.element-index c.element-item.result c.in-Some.contingency c.loop-element.marks.items c.loop-element-test.true c.element-item.is c.in-Some.is below c.loop-element.invariant
