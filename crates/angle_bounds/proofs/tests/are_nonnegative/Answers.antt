use Rattle.std.proofs.Common.{rules, ◌≤ℤ◌, pos, List, ℤ, All, subst, FitsSigned, get_or, arith}
use Rattle.std.proofs.lemmas.Int.{ints, to_z-of_z}
use Rattle.std.proofs.lemmas.List.{take_all}
use Rattle.std.proofs.lemmas.List.Elements.{All-more}
use mir.Syntax.{w128}
use Rattle.angle_bounds.proofs.tests.are_nonnegative.Goals as goal

pub loop-z-preserved : goal.loop-z-preserved
loop-z-preserved c =
    let fits : FitsSigned w128 (get_or c.args.p.now c.loop-z.z-index (pos 0)) = search rules in
    All-more (λ z. pos 0 ≤ℤ z) c.args.p.now c.loop-z.z-index (pos 0) c.loop-z-test.true c.loop-z.invariant (let over = simp to_z-of_z at c.if-z-lt0.false in omega (arith, ints))

pub returns : goal.returns
returns c = λ _. subst (λ (xs : List ℤ). All (λ z. pos 0 ≤ℤ z) xs) (take_all c.loop-z.z-index c.args.p.now c.loop-z-test.false) c.loop-z.invariant
