use Rattle.std.proofs.Common.{ℤ, List, ◌∙◌, sym, subst, rules}
use Rattle.std.specs.Prelude.{◌<ℤ◌}
use Rattle.whole_laws.specs.Sums.{at}
use Rattle.redundancy.proofs.Screening.{screened}
use Rattle.redundancy.specs.Points.{IsColumn}
use Rattle.redundancy.proofs.screens.is_screened.Goals as goal

pub returns-then-leaves_less : goal.returns-then-leaves_less
returns-then-leaves_less c t =
    let column : List ℤ = c.as_slice.result.now in
    let is_column : IsColumn c.args.rows.now c.args._bounds.now column = subst (IsColumn c.args.rows.now c.args._bounds.now) (sym (c.as_slice.ensures.items ∙ c.index-columns-i.is)) (c.requires.columns c.loop-i.i c.index-columns-i.result c.loop-i-test.true) in
    let less : at column c.args.k <ℤ at column c.args.j = search rules in
    screened c.args.rows.now c.args._bounds.now column c.args.k c.args.j is_column c.requires.k_inside c.requires.j_inside less
