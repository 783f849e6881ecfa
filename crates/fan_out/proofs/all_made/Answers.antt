use Rattle.std.proofs.Common.{◌≡◌, length, refl, sym, ap, ◌∙◌, map-id, rules}
use Rattle.std.proofs.lemmas.Iterator.Adapters.{YieldsList-from_vec}
use Rattle.std.proofs.lemmas.Iterator.Consumers.{YieldsList-end}
use Rattle.fan_out.proofs.Made.{one_made}
use Rattle.fan_out.proofs.all_made.Goals as goal

pub loop-answer-init : goal.loop-answer-init
loop-answer-init g c = rw c.new-made.ensures.empty refl

pub loop-answer-preserved : goal.loop-answer-preserved
loop-answer-preserved g c =
    one_made c.loop-answer.yielded c.loop-answer.made c.add.new.self c.in-Some.answer c.in_ok-answer.field-0
    c.loop-answer.invariant c.in_ok-answer.was c.in_ok-add.ensures.pushed

pub returns : goal.returns
returns g c =
    let same = c.into_vec-answer-items.ensures.same in
    let gives = c.into_iter-answer-iterator.ensures.into_iter_gives in
    let long : c.into_vec-answer-items.result.len ≡ length c.args.answers = search rules in
    let list = YieldsList-from_vec c.args.answers (gives.0 ∙ same) (gives.1 ∙ long) in
    let end = YieldsList-end list c.loop-answer.yielded c.loop-answer.answer-iterator c.loop-answer.yielded_by
    c.next.result c.next.new.self c.in-None.is c.next.ensures.steps in
    sym end.0 ∙ (map-id c.loop-answer.yielded ∙ c.loop-answer.invariant)
