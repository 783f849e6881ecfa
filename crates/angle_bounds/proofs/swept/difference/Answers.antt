use Rattle.std.proofs.Common.{rules, ◌≡◌, ◌-ℤ◌, ◌∙◌, FitsSigned, get_or, pos, to_z, of_z}
use Rattle.std.proofs.lemmas.Int.{to_z-of_z}
use mir.Syntax.{w128}
use Rattle.whole_laws.specs.Sums.{at}
use Rattle.angle_bounds.proofs.Proposed.{difference_more}
use Rattle.angle_bounds.proofs.swept.difference.Goals as goal

pub loop-i-preserved : goal.loop-i-preserved
loop-i-preserved c =
    let fa : FitsSigned w128 (get_or c.args.a.now c.loop-i.i (pos 0)) = search rules in
    let fb : FitsSigned w128 (get_or c.args.b.now c.loop-i.i (pos 0)) = search rules in
    let fits : FitsSigned w128 c.apart.result = record { sfits = c.apart.type_inv } in
    let is : c.apart.result ≡ at c.args.a.now c.loop-i.i -ℤ at c.args.b.now c.loop-i.i = simp to_z-of_z at c.apart.ensures in
    rw c.in_ok-add.ensures.pushed
    (difference_more c.args.a.now c.args.b.now c.loop-i.w c.loop-i.i (to_z w128 (of_z w128 c.apart.result)) c.loop-i.invariant (to_z-of_z w128 c.apart.result fits ∙ is))
