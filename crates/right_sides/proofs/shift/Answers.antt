use Rattle.std.proofs.Common.{FitsSigned, rules}
use mir.Syntax.{w64}
use Rattle.right_sides.proofs.Products.{shift_held}
use Rattle.right_sides.proofs.shift.Goals as goal

pub returns-clause-within : goal.returns-clause-within
returns-clause-within c =
    let b_fits : FitsSigned w64 c.args.branch.now.b = search rules in
    let phi_fits : FitsSigned w64 c.args.branch.now.phi = search rules in
    shift_held c.args.branch.now.b c.args.branch.now.phi c.from.result c.from-2.result c.requires.some c.requires.small b_fits phi_fits c.from.ensures c.from-2.ensures
