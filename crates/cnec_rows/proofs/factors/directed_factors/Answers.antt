use Rattle.std.proofs.Common.{map, ap, ◌∙◌, take_all}
use Rattle.cnec_rows.specs.RowNumbers.{directed}
use Rattle.cnec_rows.proofs.Turned.{turned_all}
use Rattle.cnec_rows.proofs.factors.directed_factors.Goals as goal

pub returns-clause-within : goal.returns-clause-within
returns-clause-within c =
    let all = take_all c.loop-factor.factor-index c.as_slice-factor-items.result.now c.loop-factor-test.false ∙ c.as_slice-factor-items.ensures.items in
    turned_all 1_000_000_000_000 c.args.against c.args.along.now c.loop-factor.factors c.requires (c.loop-factor.invariant ∙ ap (map (directed c.args.against)) all)
