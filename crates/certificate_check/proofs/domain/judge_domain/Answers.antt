use Rattle.std.proofs.Common.{ap, subst, sym}
use Rattle.fb_types.specs.Domain.{AreBounds}
use Rattle.cnec_rows.specs.declared.types.RowZones.{RowZones}
use Rattle.run_settings.specs.Laws.{core_bounds}
use Rattle.fb_certificate.specs.Lists.{inner_half, outer_half}
use Rattle.fb_certificate.proofs.WholeLaws.{zones_fit}
use Rattle.certificate_check.specs.Judged.{IsJudged, domain_records}
use Rattle.certificate_check.specs.declared.judgement.Judgement.{Judgement}
use Rattle.certificate_check.specs.declared.judgement.Judgement.TheVariants.{Passed, Failed}
use Rattle.certificate_check.proofs.Conclusions.{rows_in_certificate, lists_in_certificate, halves_over, rows_due, domain_rows_fail, domain_judged}
use Rattle.certificate_check.proofs.domain.judge_domain.Goals as goal

pub returns-in-Failed-clause-judged : goal.returns-in-Failed-clause-judged
returns-in-Failed-clause-judged c =
    let inputs = c.args.inputs.now in
    let cert = c.args.certificate.now in
    domain_rows_fail inputs cert c.in-Failed.record c.in-Failed.reason
    (rows_in_certificate inputs cert c.in_ok-due.due c.as_slice.result.now c.as_slice-rows.result.now
    (Failed c.in-Failed.record c.in-Failed.reason) c.as_slice.ensures.items c.as_slice-rows.ensures.items
    c.in_ok-due.ensures.numbers c.in-Failed.ensures.judged)

pub row_ranges-requires-clause-rows : goal.row_ranges-requires-clause-rows
row_ranges-requires-clause-rows c =
    let inputs = c.args.inputs.now in
    let cert = c.args.certificate.now in
    let n = c.in-Passed.records in
    rows_due inputs cert n
    (rows_in_certificate inputs cert c.in_ok-due.due c.as_slice.result.now c.as_slice-rows.result.now
    (Passed n) c.as_slice.ensures.items c.as_slice-rows.ensures.items c.in_ok-due.ensures.numbers
    c.in-Passed.ensures.judged)

pub judge_lists-requires-clause-over_inner : goal.judge_lists-requires-clause-over_inner
judge_lists-requires-clause-over_inner c =
    halves_over inner_half c.in_ok-zones.zones.bounds
    (core_bounds c.args.inputs.now.settings.zones) c.as_slice-rows.result.now c.args.certificate.now.rows
    (ap (λ (z : RowZones). z.bounds) c.in_ok-zones.ensures) c.as_slice-rows.ensures.items c.row_ranges.ensures.inner

pub judge_lists-requires-clause-over_outer : goal.judge_lists-requires-clause-over_outer
judge_lists-requires-clause-over_outer c =
    halves_over outer_half c.in_ok-zones.zones.bounds
    (core_bounds c.args.inputs.now.settings.zones) c.as_slice-rows.result.now c.args.certificate.now.rows
    (ap (λ (z : RowZones). z.bounds) c.in_ok-zones.ensures) c.as_slice-rows.ensures.items c.row_ranges.ensures.outer

pub judge_lists-requires-clause-bounds : goal.judge_lists-requires-clause-bounds
judge_lists-requires-clause-bounds c =
    subst (λ (z : RowZones). AreBounds z.bounds) (sym c.in_ok-zones.ensures)
    (zones_fit c.args.inputs.now c.requires.whole).in_range

pub returns-clause-judged : goal.returns-clause-judged
returns-clause-judged c =
    let inputs = c.args.inputs.now in
    let cert = c.args.certificate.now in
    let n = c.in-Passed.records in
    subst (λ (j : Judgement). IsJudged inputs cert (domain_records inputs cert) j) (sym c.behind.ensures.value)
    (domain_judged inputs cert n c.in_ok-lists.lists
    (rows_in_certificate inputs cert c.in_ok-due.due c.as_slice.result.now c.as_slice-rows.result.now
    (Passed n) c.as_slice.ensures.items c.as_slice-rows.ensures.items c.in_ok-due.ensures.numbers
    c.in-Passed.ensures.judged)
    (lists_in_certificate inputs cert c.in_ok-zones.zones.bounds c.as_slice-rows.result.now
    c.as_slice-inner.result.now c.as_slice-outer.result.now c.in_ok-lists.lists
    (ap (λ (z : RowZones). z.bounds) c.in_ok-zones.ensures) c.as_slice-rows.ensures.items
    c.as_slice-inner.ensures.items c.as_slice-outer.ensures.items c.in_ok-lists.ensures.judged))
