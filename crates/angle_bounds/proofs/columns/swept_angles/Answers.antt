use Rattle.std.proofs.Common.{List, ℤ, sym, subst}
use Rattle.angle_bounds.specs.RightSides.{IsProposed}
use Rattle.angle_bounds.specs.Approaches.{Approaches}
use Rattle.angle_bounds.proofs.Guessed.{angles_enclose}
use Rattle.angle_bounds.proofs.columns.swept_angles.Goals as goal

pub returns : goal.returns
returns c =
    let s = c.args.state.now in
    let p = c.args.p.now in
    let a = c.in_ok-approach.approach in
    let approaches : Approaches s p a = rw c.as_slice.ensures.items at c.in_ok-approach.ensures.approaches in
    let proposed : IsProposed s p a.w = subst (λ (w : List ℤ). IsProposed s p w) (sym c.in_ok-approach.ensures.same) c.in_ok-w.ensures in
    angles_enclose s p a c.with_kappa.result approaches proposed c.with_kappa.ensures.same c.with_kappa.ensures.least
