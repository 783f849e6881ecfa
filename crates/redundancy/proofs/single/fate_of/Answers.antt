use Rattle.std.proofs.Common.{◌^◌, ℤ, ap, ◌∙◌, to_z-of_z, lit<}
use Rattle.row_weighing.proofs.Wide.{fits}
use Rattle.multiplier_search.specs.Found.{none_of, with_balance}
use Rattle.redundancy.proofs.Fated.{removal-none, removal-one}
use Rattle.redundancy.proofs.single.fate_of.Goals as goal

pub returns-in-Some : goal.returns-in-Some
returns-in-Some c =
    let h = c.in-Some.ensures in
    removal-none c.args.rows.now c.args.bounds.now c.args.kept.now c.args.k c.in-Some.mu c.with_none.result
    (c.with_none.ensures ∙ ap (λ (mu : ℤ). with_balance none_of mu) (to_z-of_z (fits (10 ^ 24) c.in-Some.mu h.0 (lit< tt)))) c.if-kept-k.false h.0 h.1

pub returns : goal.returns
returns c = removal-one c.args.rows.now c.args.bounds.now c.args.kept.now c.args.k c.source-one.result c.in_ok-with_one.field-0 c.in_ok-with_one.ensures c.if-kept-k.false c.source-one.ensures
