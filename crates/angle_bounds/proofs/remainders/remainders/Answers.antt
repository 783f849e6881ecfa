use Rattle.std.proofs.Common.{FitsSigned, to_z, of_z, ◌∙◌}
use Rattle.std.proofs.lemmas.Int.{to_z-of_z}
use mir.Syntax.{w128}
use Rattle.angle_bounds.specs.RightSides.{remainder_of}
use Rattle.angle_bounds.proofs.Made.{made_more, little_more}
use Rattle.angle_bounds.proofs.remainders.remainders.Goals as goal

pub loop-class-preserved : goal.loop-class-preserved
loop-class-preserved c =
    let s = c.args.state.now in
    let fits : FitsSigned w128 c.remainder_at-here.result = record { sfits = c.remainder_at-here.type_inv } in
    let so_far = c.loop-class.invariant in
    let one = to_z w128 (of_z w128 c.remainder_at-here.result) in
    rw c.in_ok-push.ensures.items
    (record {
      made = made_more s (remainder_of s c.args.p.now c.args.w.now) c.loop-class.numbers.items c.loop-class.class one so_far.made (to_z-of_z w128 c.remainder_at-here.result fits ∙ c.remainder_at-here.ensures);
      settled = λ t.
          little_more s c.loop-class.numbers.items c.loop-class.class one so_far.made.each_class (so_far.settled (c.stays_settled-is_settled.ensures.before t))
          (c.stays_settled-is_settled.ensures.little t);
    })
