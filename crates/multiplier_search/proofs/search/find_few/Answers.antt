use Rattle.std.proofs.Common.{◌^◌, ℤ, ap, ◌∙◌, to_z-of_z, lit<}
use Rattle.row_weighing.proofs.Wide.{fits}
use Rattle.multiplier_search.specs.Found.{none_of, with_balance}
use Rattle.multiplier_search.proofs.Trying.{proven-none, proven-one, proven-pair, alone, unpaired}
use Rattle.multiplier_search.proofs.search.find_few.Goals as goal

pub returns-in-Some-clause-proof : goal.returns-in-Some-clause-proof
returns-in-Some-clause-proof c =
    let h = c.in-Some.ensures in
    proven-none c.args.target.now c.args.rows.now c.args.kept.now c.args.bounds.now c.in-Some.mu c.with_none.result
    (c.with_none.ensures ∙ ap (λ (mu : ℤ). with_balance none_of mu) (to_z-of_z (fits (10 ^ 24) c.in-Some.mu h.0 (lit< tt)))) h.0 h.1

pub returns-in-Some-try_rows-clause-proof : goal.returns-in-Some-try_rows-clause-proof
returns-in-Some-try_rows-clause-proof c =
    proven-one c.args.target.now c.args.rows.now c.args.kept.now c.args.bounds.now c.in-Some-try_rows.one c.in_ok-with_one.field-0 c.in_ok-with_one.ensures c.in-Some-try_rows.ensures

pub returns-in-Some-try_pairs-clause-proof : goal.returns-in-Some-try_pairs-clause-proof
returns-in-Some-try_pairs-clause-proof c =
    proven-pair c.args.target.now c.args.rows.now c.args.kept.now c.args.bounds.now c.in-Some-try_pairs.two c.in_ok-with_two.field-0 c.in_ok-with_two.ensures c.in-Some-try_pairs.ensures

pub returns-then-rows-gt64-clause-alone : goal.returns-then-rows-gt64-clause-alone
returns-then-rows-gt64-clause-alone c =
    alone c.args.target.now c.args.rows.now c.args.kept.now c.args.bounds.now c.in_default.ensures c.in_default-try_rows.ensures

pub returns-clause-alone : goal.returns-clause-alone
returns-clause-alone c =
    alone c.args.target.now c.args.rows.now c.args.kept.now c.args.bounds.now c.in_default.ensures c.in_default-try_rows.ensures

pub returns-clause-unpaired : goal.returns-clause-unpaired
returns-clause-unpaired c few =
    unpaired c.args.target.now c.args.rows.now c.args.kept.now c.args.bounds.now c.in_default-try_pairs.ensures
