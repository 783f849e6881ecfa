use Rattle.std.proofs.Common.{◌*◌, ◌^◌, pos, ◌∙◌, lit<}
use mir.Syntax.{w128}
use Rattle.std.proofs.lemmas.Int.{to_z-of_z}
use Rattle.right_sides.proofs.Classes.{shift_next}
use Rattle.right_sides.proofs.Products.{turned_held, shift_of_within}
use Rattle.right_sides.proofs.add_shift.Goals as goal

pub returns-clause-raised : goal.returns-clause-raised
returns-clause-raised c =
    let shift = c.shift-shift.result in
    let same = to_z-of_z w128 shift (record { sfits = c.shift-shift.type_inv }) in
    shift_next c.args.state.now (pos (10 ^ 4)) c.args.branch.now c.class_of.result c.class_of-2.result _ _ c.args.sums.now c.add_at.new.sums c.add_at-2.new.sums
    c.class_of.ensures c.class_of-2.ensures (same ∙ c.shift-shift.ensures.value) (turned_held (10 ^ 15 * 2 ^ 63) shift (lit< tt) c.shift-shift.ensures.within) c.add_at.ensures c.add_at-2.ensures

pub returns-clause-within : goal.returns-clause-within
returns-clause-within c = λ k.
    shift_of_within (10 ^ 15 * 2 ^ 63) c.args.state.now c.args.branch.now k (pos (10 ^ 4)) (rw c.shift-shift.ensures.value at c.shift-shift.ensures.within)
