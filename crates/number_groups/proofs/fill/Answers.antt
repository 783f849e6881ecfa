use Rattle.std.proofs.Common.{◌<◌, length, get_or, sym}
use Rattle.std.proofs.lemmas.Grind.{get_or_default_zero}
use Rattle.std.proofs.lemmas.List.Elements.{All-get_or}
use Rattle.number_groups.proofs.GroupLaws.{groups_more}
use Rattle.number_groups.proofs.fill.Goals as goal

pub loop-place-preserved : goal.loop-place-preserved
loop-place-preserved g c =
    let ns = c.args.numbers.now in
    let xs = c.args.items.now in
    let i = c.loop-place.place in
    let n = get_or ns i 0 in
    let x = c.index-items-place.result in
    groups_more (length c.args.groups.now) ns xs i n x c.loop-place.groups c.add_to.new.groups c.requires.as_many c.loop-place-test.true
    (sym (get_or_default_zero ns i n c.loop-place-test.true)) c.index-items-place.is
    (All-get_or (λ m. m < length c.args.groups.now) ns i 0 c.loop-place-test.true c.requires.below) c.loop-place.invariant c.in_ok-add_to.ensures
