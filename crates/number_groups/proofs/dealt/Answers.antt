use Rattle.std.proofs.Common.{◌<◌, length, get_or, ap, sym, ◌∙◌, arith, length-set}
use Rattle.std.proofs.lemmas.Grind.{get_or_default_zero}
use Rattle.std.proofs.lemmas.List.{length_push}
use Rattle.std.proofs.lemmas.List.Elements.{All-get_or}
use Rattle.number_groups.proofs.GroupLaws.{next_left, dealt_more, dealt_all}
use Rattle.number_groups.proofs.dealt.Goals as goal

pub next_of-requires-clause-some : goal.next_of-requires-clause-some
next_of-requires-clause-some g c =
    let ns = c.args.numbers.now in
    let i = c.loop-number.number-index in
    let n = get_or ns i 0 in
    let l = c.loop-number-test.true in
    next_left ns c.args.queues.now i n c.loop-number.items c.loop-number.queues l
    (sym (get_or_default_zero ns i n l)) (All-get_or (λ m. m < length c.args.queues.now) ns i 0 l c.requires.below)
    c.loop-number.invariant.long c.loop-number.invariant.each c.requires.as_many

pub loop-number-preserved : goal.loop-number-preserved
loop-number-preserved g c =
    let ns = c.args.numbers.now in
    let i = c.loop-number.number-index in
    let n = get_or ns i 0 in
    let l = c.loop-number-test.true in
    let added = c.in_ok-add.ensures.pushed in
    let pushed = ap length added ∙ length_push c.loop-number.items c.next_of.result in
    let before = c.loop-number.invariant.long in
    record {
      as_many = ap length c.next_of.ensures.left ∙ (length-set c.loop-number.queues n _ ∙ c.loop-number.invariant.as_many);
      long = omega (arith, pushed, before);
      each = dealt_more ns c.args.queues.now i n c.loop-number.items c.loop-number.queues l
          (sym (get_or_default_zero ns i n l)) (All-get_or (λ m. m < length c.args.queues.now) ns i 0 l c.requires.below)
          c.loop-number.invariant.long c.loop-number.invariant.each c.next_of.result _ c.add.new.self c.next_of.new.queues
          c.loop-number.invariant.as_many c.next_of.ensures.first c.next_of.ensures.left added;
    }

pub returns-clause-groups : goal.returns-clause-groups
returns-clause-groups g c =
    let i = c.loop-number.number-index in
    dealt_all c.args.numbers.now c.args.queues.now i c.loop-number.items c.loop-number.queues
    (omega (arith, c.loop-number-test.false)) c.loop-number.auto.number-index-end c.loop-number.invariant.long
    c.loop-number.invariant.each c.requires.as_many
