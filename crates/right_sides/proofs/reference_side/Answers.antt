use Rattle.std.proofs.Common.{◌≡◌, length, ◌∙◌, ap, arith, pos}
use Rattle.std.proofs.lemmas.List.{with_items_is, length-replicate}
use Rattle.std.specs.Vec.{with_items}
use Rattle.right_sides.proofs.Sides.{HasNumbers, from_none, reference_number, and_shifts, is_reference}
use Rattle.right_sides.proofs.Sizes.{reference_small}
use Rattle.right_sides.proofs.reference_side.Goals as goal

numbers : (c : goal.After-from_vec) → HasNumbers c.args.state.now c.from_vec.result (reference_number c.args.state.now c.args.grid.now)
numbers c =
    let s = c.args.state.now in
    let grid = c.args.grid.now in
    let v = c.in_ok-sums.sums in
    let start = c.deref_mut.ensures.value ∙ c.in_ok-sums.ensures.items_if_clones_equal (λ y e. e) in
    let size = ap length start ∙ length-replicate c.classes.result (pos 0) in
    let len = c.in_ok-sums.ensures.len in
    let one = c.add_powers.ensures.raised.each_class in
    let two = c.add_shifts.ensures.each_class in
    let between : c.deref_mut-2.result.now ≡ c.add_powers.new.sums = c.deref_mut-2.ensures.value ∙ with_items_is v c.add_powers.new.sums (omega (arith, size, len, one)) in
    let same = ap length between in
    let end : c.from_vec.result ≡ c.add_shifts.new.sums = c.from_vec.ensures.same ∙ with_items_is (with_items v c.add_powers.new.sums) c.add_shifts.new.sums (omega (arith, size, len, one, two, same)) in
    rw end
    (and_shifts s grid c.add_powers.new.sums c.add_shifts.new.sums (from_none s c.classes.result c.deref_mut.result.now c.add_powers.new.sums _ c.classes.ensures start c.add_powers.ensures.raised) (rw between at c.add_shifts.ensures))

pub returns-clause-value : goal.returns-clause-value
returns-clause-value c = is_reference c.args.state.now c.args.grid.now c.from_vec.result (numbers c)

pub returns-clause-size : goal.returns-clause-size
returns-clause-size c =
    let n = numbers c in
    reference_small c.args.state.now c.args.grid.now c.from_vec.result c.requires.of_grid.of_grid.classes.each_place n.each_class n.values c.requires.range.balance
