use Rattle.std.proofs.Common.{ℕ, ◌+◌, ap}
use Rattle.crac_model.proofs.NameLaws.{contingency_step}
use Rattle.crac_model.proofs.outages.contingency_places.Goals as goal

pub loop-contingency-preserved : goal.loop-contingency-preserved
loop-contingency-preserved c =
    let noted = rw c.as_text.ensures.bytes at c.in_ok-note.ensures in
    record {
      place = ap (λ (n : ℕ). n + 1) c.loop-contingency.invariant.place;
      left = contingency_step c.loop-contingency.places c.note.new.values _ c.args.contingencies.now c.loop-contingency.contingency-index c.loop-contingency.place c.contingency-item.result c.loop-contingency-test.true c.contingency-item.is noted c.loop-contingency.invariant.left;
    }
