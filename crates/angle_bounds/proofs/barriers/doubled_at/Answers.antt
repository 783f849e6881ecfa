use Rattle.std.proofs.Common.{◌≡◌, pos, ◌*ℤ◌, ◌*◌, FitsSigned, arith, sym, ◌∙◌}
use Rattle.std.proofs.lemmas.Int.{ints, to_z-of_z}
use Rattle.std.proofs.lemmas.Bool.{cond-true}
use mir.Syntax.{w128}
use Rattle.grid_state.specs.GridState.{is_free, susceptance_of}
use Rattle.grid_laplacian.proofs.PartialSums.{susceptance_small}
use Rattle.angle_bounds.specs.RightSides.{doubled}
use Rattle.angle_bounds.proofs.barriers.doubled_at.Goals as goal

pub overflow_mul-result : goal.overflow_mul-result
overflow_mul-result c =
    let fits : FitsSigned w128 c.susceptance_at.result = record { sfits = c.susceptance_at.type_inv } in
    let small = susceptance_small c.args.state.now c.args.class c.sound.ensures c.requires in
    let same = c.susceptance_at.ensures in
    simp to_z-of_z (omega (arith, ints))

pub returns-then-is_free : goal.returns-then-is_free
returns-then-is_free c =
    let s = c.args.state.now in
    let fits : FitsSigned w128 c.susceptance_at.result = record { sfits = c.susceptance_at.type_inv } in
    let small = susceptance_small s c.args.class c.sound.ensures c.requires in
    let same = c.susceptance_at.ensures in
    let both : FitsSigned w128 (pos 2 *ℤ c.susceptance_at.result) = omega (arith, ints) in
    let twice : pos 2 *ℤ c.susceptance_at.result ≡ pos (2 * susceptance_of s c.args.class) = omega (arith, ints) in
    simp to_z-of_z (twice ∙ sym (cond-true (is_free s c.args.class) (doubled s c.args.class) (pos 0) (sym c.is_free.ensures ∙ c.if-is_free.true)))
