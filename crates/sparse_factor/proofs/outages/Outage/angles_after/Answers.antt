use Rattle.std.proofs.Common.{FitsSigned, to_z, of_z}
use Rattle.std.proofs.lemmas.Int.{to_z-of_z}
use mir.Syntax.{w128}
use Rattle.sparse_factor.proofs.Limits.{bounded_more}
use Rattle.sparse_factor.proofs.outages.Outage.angles_after.Goals as goal

pub loop-class-preserved : goal.loop-class-preserved
loop-class-preserved c =
    let fits : FitsSigned w128 c.angle_of.result = record { sfits = c.angle_of.type_inv } in
    rw c.in_ok-push.ensures.items
    (bounded_more c.args.state.now c.args.limit c.loop-class.angles.items c.loop-class.class (to_z w128 (of_z w128 c.angle_of.result)) c.loop-class.invariant
    (rw (to_z-of_z w128 c.angle_of.result fits) c.angle_of.ensures.within) (rw (to_z-of_z w128 c.angle_of.result fits) c.angle_of.ensures.fixed))
