use Rattle.std.proofs.Common.{◌≡◌, length, pos, ◌∙◌, ap, arith}
use Rattle.std.proofs.lemmas.List.{with_items_is, length-replicate}
use Rattle.right_sides.proofs.Sides.{HasNumbers, from_none, block_number, is_block}
use Rattle.right_sides.proofs.Sizes.{block_small}
use Rattle.right_sides.proofs.block_side.Goals as goal

numbers : (c : goal.After-from_vec) → HasNumbers c.args.state.now c.from_vec.result (block_number c.args.state.now c.args.block.now)
numbers c =
    let start = c.deref_mut.ensures.value ∙ c.in_ok-sums.ensures.items_if_clones_equal (λ y e. e) in
    let size = ap length start ∙ length-replicate c.classes.result (pos 0) in
    let len = c.in_ok-sums.ensures.len in
    let one = c.add_weights.ensures.each_class in
    let end : c.from_vec.result ≡ c.add_weights.new.sums = c.from_vec.ensures.same ∙ with_items_is c.in_ok-sums.sums c.add_weights.new.sums (omega (arith, size, len, one)) in
    rw end (from_none c.args.state.now c.classes.result c.deref_mut.result.now c.add_weights.new.sums _ c.classes.ensures start c.add_weights.ensures)

pub returns-clause-value : goal.returns-clause-value
returns-clause-value c = is_block c.args.state.now c.args.block.now c.from_vec.result (numbers c)

pub returns-clause-size : goal.returns-clause-size
returns-clause-size c =
    let n = numbers c in
    block_small c.args.state.now c.args.block.now c.from_vec.result c.requires.block n.each_class n.values
