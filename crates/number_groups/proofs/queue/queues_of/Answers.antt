use Rattle.std.proofs.Common.{◌≡◌, length, sym, ◌∙◌, map-id, rules}
use Rattle.std.proofs.lemmas.Iterator.Adapters.{YieldsList-from_vec}
use Rattle.std.proofs.lemmas.Iterator.Consumers.{YieldsList-end}
use Rattle.number_groups.proofs.queue.queues_of.Goals as goal

pub returns : goal.returns
returns g c =
    let same = c.into_vec-group-items.ensures.same in
    let gives = c.into_iter-group-iterator.ensures.into_iter_gives in
    let long : c.into_vec-group-items.result.len ≡ length c.args.groups = search rules in
    let list = YieldsList-from_vec c.args.groups (gives.0 ∙ same) (gives.1 ∙ long) in
    let end = YieldsList-end list c.loop-group.yielded c.loop-group.group-iterator c.loop-group.yielded_by
    c.next.result c.next.new.self c.in-None.is c.next.ensures.steps in
    sym c.loop-group.invariant ∙ (sym (map-id c.loop-group.yielded) ∙ end.0)
