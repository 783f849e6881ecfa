use Rattle.std.proofs.Common.{rules, arith, FitsSigned}
use Rattle.std.proofs.lemmas.Int.{ints}
use mir.Syntax.{w64}
use Rattle.grid_laplacian.proofs.Shifts.{shift_small}
use Rattle.grid_laplacian.proofs.range.shift.Goals as goal

pub returns-then-carries-clause-small : goal.returns-then-carries-clause-small
returns-then-carries-clause-small c =
    let fits : FitsSigned w64 c.args.branch.now.phi = search rules in
    shift_small c.args.state.now c.args.number c.args.branch.now c.requires.in_range (omega (arith, ints))
