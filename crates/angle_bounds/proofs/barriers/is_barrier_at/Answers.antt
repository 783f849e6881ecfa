use Rattle.std.proofs.Common.{rules, ◌≡◌, ◌≤ℤ◌, ◌+ℤ◌, pos, get_or, FitsSigned, arith, refl}
use Rattle.std.proofs.lemmas.Int.{ints, to_z-of_z}
use mir.Syntax.{w128}
use Rattle.whole_laws.specs.Sums.{at}
use Rattle.grid_state.specs.GridState.{susceptance_of}
use Rattle.grid_laplacian.specs.Ranges.{reach_of}
use Rattle.angle_bounds.proofs.barriers.is_barrier_at.Goals as goal

pub returns-then-is_free : goal.returns-then-is_free
returns-then-is_free c = λ t.
    let s = c.args.state.now in
    let fv : FitsSigned w128 (get_or c.args.v.now c.args.class (pos 0)) = search rules in
    let fl : FitsSigned w128 (get_or c.args.left.now c.args.class (pos 0)) = search rules in
    let ff : FitsSigned w128 c.args.far = c.ranges.far in
    let fs : FitsSigned w128 c.susceptance_at.result = record { sfits = c.susceptance_at.type_inv } in
    let le : at c.args.left.now c.args.class ≤ℤ c.susceptance_at.result = simp to_z-of_z at (c.is_at_most.ensures t) in
    let e : c.susceptance_at.result ≡ pos (susceptance_of s c.args.class) = c.susceptance_at.ensures in
    let high : pos 0 ≤ℤ at c.args.v.now c.args.class = simp to_z-of_z at (c.if-not-is_in_reach.ensures refl).0 in
    let low : at c.args.v.now c.args.class ≤ℤ (c.args.far +ℤ c.args.far) = simp to_z-of_z at (c.if-not-is_in_reach.ensures refl).1 in
    let far : c.args.far ≡ pos (reach_of s) = c.requires.reach in
    record {
      high = high;
      in_reach = omega (arith, ints);
      little = λ on. omega (arith, ints);
    }
