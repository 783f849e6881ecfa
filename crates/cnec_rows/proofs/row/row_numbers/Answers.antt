use Rattle.std.proofs.Common.{ap, ◌∙◌}
use Rattle.std.proofs.lemmas.Result.{IfOk-weaker}
use Rattle.cnec_rows.specs.RowFlows.{row_proof_on, row_spans_on}
use Rattle.cnec_rows.proofs.row.row_numbers.Goals as goal

pub returns-clause-spans : goal.returns-clause-spans
returns-clause-spans c =
    IfOk-weaker c.row_on.result _ _
    (λ row is named same stands. is ∙ ap (row_spans_on c.args.zones.now c.args.terms.now) (c.in_ok-flows.ensures.value named same stands))
    c.row_on.ensures.spans

pub returns-clause-row : goal.returns-clause-row
returns-clause-row c =
    IfOk-weaker c.row_on.result _ _
    (λ row is named same stands. is ∙ ap (row_proof_on c.args.zones.now c.args.terms.now) (c.in_ok-flows.ensures.value named same stands))
    c.row_on.ensures.row
