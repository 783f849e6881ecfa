use Rattle.run_inputs.specs.Marks.{is_marked}
use Rattle.run_inputs.proofs.MarkLaws.{places-more_off, places-more_on}
use Rattle.run_inputs.proofs.outages.marked_places.Goals as goal

pub loop-place-preserved-then-not-marks-place : goal.loop-place-preserved-then-not-marks-place
loop-place-preserved-then-not-marks-place c = places-more_off (is_marked c.args.marks.now) c.loop-place.place c.loop-place.places c.if-not-marks-place.true c.loop-place.invariant

pub loop-place-preserved : goal.loop-place-preserved
loop-place-preserved c =
    let added = c.in_ok-add.ensures.pushed in
    rw added (places-more_on (is_marked c.args.marks.now) c.loop-place.place c.loop-place.places c.if-not-marks-place.false c.loop-place.invariant)
