use Rattle.std.proofs.Common.{◌≡◌, List, length, ap, subst, sym, ◌∙◌}
use Rattle.std.proofs.lemmas.Result.{IfOk-weaker}
use Rattle.cnec_rows.specs.declared.types.RowSpans.{RowSpans}
use Rattle.run_report.specs.ReportTexts.{report_text}
use Rattle.fbcc_core.proofs.PrintedTexts.{report_printed, rows_counted, spans_counted, inner_cited, outer_cited}
use Rattle.fbcc_core.proofs.paper.print_report.Goals as goal

pub write_report-requires-clause-rows : goal.write_report-requires-clause-rows
write_report-requires-clause-rows g c = rows_counted c.args.inputs.now c.in_ok-domain.domain c.in_ok-domain.ensures

pub write_report-requires-clause-spans : goal.write_report-requires-clause-spans
write_report-requires-clause-spans g c =
    ap length c.as_slice.ensures.items ∙ spans_counted c.args.inputs.now c.in_ok-domain.domain c.in_ok-domain.ensures

pub write_report-requires-clause-inner : goal.write_report-requires-clause-inner
write_report-requires-clause-inner g c = inner_cited c.args.inputs.now c.in_ok-domain.domain c.in_ok-domain.ensures

pub write_report-requires-clause-outer : goal.write_report-requires-clause-outer
write_report-requires-clause-outer g c = outer_cited c.args.inputs.now c.in_ok-domain.domain c.in_ok-domain.ensures

pub returns : goal.returns
returns g c =
    let inputs = c.args.inputs.now in
    let domain = c.in_ok-domain.domain in
    IfOk-weaker c.write_report.result (λ text. text.items ≡ report_text inputs domain.certificate c.as_slice.result.now) _
    (λ text e. report_printed inputs domain text.items c.requires.whole c.in_ok-domain.ensures
    (e ∙ ap (λ (spans : List RowSpans). report_text inputs domain.certificate spans) c.as_slice.ensures.items))
    c.write_report.ensures
