use Rattle.std.proofs.Common.{◌≡◌, ℕ, List, ◌++◌, subst, ap, ◌∙◌}
use Rattle.std.specs.Prelude.{IfOk}
use Rattle.csv_rows.specs.Tables.{record_text, table_text}
use Rattle.domain_report.specs.DomainTexts.{header, records, domain_text}
use Rattle.domain_report.proofs.write_domain.Goals as goal

pub returns : goal.returns
returns c =
    let inputs = c.args.inputs.now in
    let certificate = c.args.certificate.now in
    let columns : c.put_header.new.fields ≡ header inputs.settings.zones =
    c.in_ok-put_header.ensures ∙ (λ i. c.new-columns.ensures i ++ header (c.as_slice.ensures.items i)) in
    let first : c.put_fields.new.self.text ≡ record_text (header inputs.settings.zones) =
    c.in_ok-put_fields.ensures.ok ∙ (λ i. c.new-table.ensures.text i ++ record_text (columns i)) in
    let whole : c.put_rows.new.table.text ≡ domain_text inputs certificate =
    c.in_ok-put_rows.ensures ∙ ap (λ (t : List ℕ). t ++ table_text (records inputs.crac certificate)) first in
    subst (λ (t : List ℕ). IfOk c.into_text.result (λ text. text.items ≡ t)) whole c.into_text.ensures.ok
