-- What is printed of a domain whose states' proofs were let go is what is printed of its certificate.
use Rattle.std.proofs.Common.{◌≡◌, ℕ, List, [], ◌∷◌, length, sym, ap, subst, ◌∙◌}
use Rattle.std.specs.List.{AllZip}
use Rattle.run_settings.specs.Laws.{core_bounds}
use Rattle.cnec_rows.specs.declared.types.RowSpans.{RowSpans}
use Rattle.domain_maker.specs.Domains.{AreSpansOf, IsDomainOf}
use Rattle.domain_maker.specs.declared.domain.Domain.{Domain}
use Rattle.domain_report.specs.DomainTexts.{domain_text}
use Rattle.fb_certificate.proofs.WholeLaws.{zip_length}
use Rattle.fb_certificate.specs.CracRows.{CracRow, crac_rows}
use Rattle.fb_certificate.specs.Lists.{AreCites, inner_list, outer_list}
use Rattle.fb_certificate.specs.Valid.{IsRowOf}
use Rattle.fb_certificate.specs.Whole.{IsWhole}
use Rattle.fb_certificate.specs.declared.types.Certificate.{Certificate}
use Rattle.fb_certificate.specs.declared.types.Inputs.{Inputs}
use Rattle.run_report.specs.ReportTexts.{IsReport, IsSpansOf, report_text}
use Rattle.valid_domains.proofs.Theorem.{sound_domain}
use Rattle.fbcc_core.specs.Printing.{IsPrinted}
use Rattle.fbcc_core.specs.declared.paper.Paper.TheVariants.{Table, Report}

-- ---- The table

pub table_printed : (inputs : Inputs) (domain : Domain) (text : List ℕ) → IsWhole inputs → IsDomainOf inputs domain → text ≡ domain_text inputs domain.certificate → IsPrinted Table inputs text
table_printed inputs domain text whole d e = record {
  certificate = d.full;
  sound = sound_domain inputs d.full whole d.valid;
  thin = d.thin;
  says = e ∙ ap (λ (c : Certificate). domain_text inputs c) d.same;
}

-- ---- The report

same_spans : (inputs : Inputs) (c : Certificate) (rows : List CracRow) (spans : List RowSpans) → AllZip (AreSpansOf inputs c.states) rows spans → AllZip (IsSpansOf inputs c) rows spans
same_spans inputs c [] [] h = h
same_spans inputs c [] (s ∷ spans) h = absurd h
same_spans inputs c (r ∷ rows) [] h = absurd h
same_spans inputs c (r ∷ rows) (s ∷ spans) h = (record { numbers = h.0.numbers; are = h.0.are }, same_spans inputs c rows spans h.1)

pub report_printed : (inputs : Inputs) (domain : Domain) (text : List ℕ) → IsWhole inputs → IsDomainOf inputs domain → text ≡ report_text inputs domain.certificate domain.spans → IsPrinted Report inputs text
report_printed inputs domain text whole d e = record {
  certificate = d.full;
  sound = sound_domain inputs d.full whole d.valid;
  thin = d.thin;
  says = record {
    spans = domain.spans;
    are = same_spans inputs d.full (crac_rows inputs.crac.elements) domain.spans d.spans;
    same = e ∙ ap (λ (c : Certificate). report_text inputs c domain.spans) d.same;
  };
}

pub rows_counted : (inputs : Inputs) (domain : Domain) → IsDomainOf inputs domain → length domain.certificate.rows ≡ length (crac_rows inputs.crac.elements)
rows_counted inputs domain d =
    ap (λ (c : Certificate). length c.rows) d.same ∙ sym (zip_length (IsRowOf inputs d.full.states) (crac_rows inputs.crac.elements) d.full.rows d.valid.rows)

pub spans_counted : (inputs : Inputs) (domain : Domain) → IsDomainOf inputs domain → length domain.spans ≡ length (crac_rows inputs.crac.elements)
spans_counted inputs domain d = sym (zip_length (AreSpansOf inputs d.full.states) (crac_rows inputs.crac.elements) domain.spans d.spans)

pub inner_cited : (inputs : Inputs) (domain : Domain) → IsDomainOf inputs domain → AreCites inner_list (core_bounds inputs.settings.zones) domain.certificate.rows domain.certificate.inner
inner_cited inputs domain d = subst (λ (c : Certificate). AreCites inner_list (core_bounds inputs.settings.zones) c.rows c.inner) (sym d.same) d.valid.inner

pub outer_cited : (inputs : Inputs) (domain : Domain) → IsDomainOf inputs domain → AreCites outer_list (core_bounds inputs.settings.zones) domain.certificate.rows domain.certificate.outer
outer_cited inputs domain d = subst (λ (c : Certificate). AreCites outer_list (core_bounds inputs.settings.zones) c.rows c.outer) (sym d.same) d.valid.outer
