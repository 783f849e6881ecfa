use Rattle.std.proofs.Common.{rules, FitsSigned, get_or, pos, to_z, of_z}
use Rattle.std.proofs.lemmas.Int.{to_z-of_z}
use mir.Syntax.{w128}
use Rattle.whole_laws.specs.Sums.{at}
use Rattle.angle_bounds.specs.RightSides.{IsMoved}
use Rattle.angle_bounds.proofs.Guessed.{moved_more}
use Rattle.angle_bounds.proofs.corrections.all_moved.Goals as goal

pub loop-i-preserved : goal.loop-i-preserved
loop-i-preserved c =
    let fa : FitsSigned w128 (get_or c.args.w.now c.loop-i.i (pos 0)) = search rules in
    let fb : FitsSigned w128 (get_or c.args.by.now c.loop-i.i (pos 0)) = search rules in
    let fits : FitsSigned w128 c.moved.result = record { sfits = c.moved.type_inv } in
    let is : IsMoved c.args.limit (at c.args.w.now c.loop-i.i) (at c.args.by.now c.loop-i.i) c.moved.result = simp to_z-of_z at c.moved.ensures in
    rw c.in_ok-push.ensures.items
    (moved_more c.args.limit c.args.w.now c.args.by.now c.loop-i.next.items c.loop-i.i (to_z w128 (of_z w128 c.moved.result)) c.loop-i.invariant (rw (to_z-of_z w128 c.moved.result fits) is))
