use Rattle.std.proofs.Common.{◌∙◌, arith}
use Rattle.glsk_keys.proofs.MeasureLaws.{listed-set, listed-past, listed-none}
use Rattle.glsk_keys.proofs.nodes.listed_marks.Goals as goal

pub loop-place-init : goal.loop-place-init
loop-place-init c = c.in_ok-listed.ensures.items_if_clones_equal (λ y e. e) ∙ listed-none c.args.count

pub loop-place-preserved-then-place-len : goal.loop-place-preserved-then-place-len
loop-place-preserved-then-place-len c = listed-past c.args.count c.args.places.now c.loop-place.place-index 0 c.loop-place.listed.items c.loop-place-test.true c.loop-place.invariant (omega (arith, c.loop-place.listed.ok.0))

pub loop-place-preserved : goal.loop-place-preserved
loop-place-preserved c = listed-set c.args.count c.args.places.now c.loop-place.place-index 0 c.loop-place.listed.items c.loop-place-test.true c.loop-place.invariant (omega (arith, c.loop-place.listed.ok.0))
