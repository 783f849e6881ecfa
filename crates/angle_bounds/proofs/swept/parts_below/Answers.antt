use Rattle.std.proofs.Common.{FitsSigned, to_z, of_z, ◌∙◌}
use Rattle.std.proofs.lemmas.Int.{to_z-of_z}
use mir.Syntax.{w128}
use Rattle.angle_bounds.specs.RightSides.{part_below}
use Rattle.angle_bounds.proofs.Made.{made_more}
use Rattle.angle_bounds.proofs.swept.parts_below.Goals as goal

pub loop-class-preserved : goal.loop-class-preserved
loop-class-preserved c =
    let fits : FitsSigned w128 c.below_at.result = record { sfits = c.below_at.type_inv } in
    rw c.in_ok-add.ensures.pushed
    (made_more c.args.state.now (part_below c.args.p.now) c.loop-class.parts c.loop-class.class (to_z w128 (of_z w128 c.below_at.result)) c.loop-class.invariant (to_z-of_z w128 c.below_at.result fits ∙ c.below_at.ensures))
