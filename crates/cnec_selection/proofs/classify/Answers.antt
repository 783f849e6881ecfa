use Rattle.std.proofs.Common.{arith, rules, FitsSigned}
use mir.Syntax.{w128}
use Rattle.std.proofs.lemmas.Int.{ints}
use Rattle.cnec_selection.proofs.SpreadProofs.{below_right, certain_right}
use Rattle.cnec_selection.proofs.classify.Goals as goal

pub returns-then-high-level-clause-right : goal.returns-then-high-level-clause-right
returns-then-high-level-clause-right c = below_right c.args.spread c.args.threshold (let fits : FitsSigned w128 c.high.result = search rules in omega (arith, ints))

pub returns-then-level-low-clause-right : goal.returns-then-level-low-clause-right
returns-then-level-low-clause-right c = certain_right c.args.spread c.args.threshold (let fits : FitsSigned w128 c.low.result = search rules in omega (arith, ints))
