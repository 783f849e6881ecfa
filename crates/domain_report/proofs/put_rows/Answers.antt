use Rattle.std.proofs.Common.{◌≡◌, ℕ, ◌+◌, ◌<◌, List, [], ◌++◌, length, get_or, sym, ap, subst, ◌∙◌, arith}
use Rattle.std.proofs.lemmas.Option.{slice_get_within, get_or_from_slice_get}
use Rattle.csv_rows.specs.Tables.{record_text}
use Rattle.fb_types.specs.declared.crac.Element.{Element}
use Rattle.fb_certificate.specs.RunRows.{is_opposite}
use Rattle.fb_certificate.specs.declared.types.RunRow.{RunRow}
use Rattle.fb_certificate.proofs.RunLaws.{few_rows}
use Rattle.domain_report.specs.DomainTexts.{row_fields, labels, sides, coefficients, citations}
use Rattle.domain_report.proofs.RunRecords.{element_within, no_row, none_past, read_as, record_added, records_done}
use Rattle.domain_report.proofs.Parts.{two_parts}
use Rattle.domain_report.proofs.put_rows.Goals as goal

pub overflow_cast-rows : goal.overflow_cast-rows
overflow_cast-rows c = omega (arith, ap length c.requires.rows, few_rows c.args.inputs.now c.requires.whole)

pub overflow_add-rows : goal.overflow_add-rows
overflow_add-rows c = omega (arith, ap length c.requires.rows, few_rows c.args.inputs.now c.requires.whole)

pub returns-in_default : goal.returns-in_default
returns-in_default c =
    let past = none_past c.args.certificate.now.rows c.loop-place.place c.in_default.ensures.item in
    records_done c.args.inputs.now c.args.certificate.now c.loop-place.place c.args.table.now.text c.loop-place.table.text (omega (arith, past)) c.loop-place.invariant

pub bounds-elements-row : goal.bounds-elements-row
bounds-elements-row c =
    subst (λ (es : List Element). (get_or c.args.rows.now c.loop-place.place no_row).element < length es) (sym c.as_slice-elements.ensures.items)
    (element_within c.args.inputs.now c.args.rows.now c.loop-place.place no_row c.requires.rows c.loop-place-test.true)

pub overflow_cast-number : goal.overflow_cast-number
overflow_cast-number c = omega (arith, c.loop-place-test.true, ap length c.requires.rows, few_rows c.args.inputs.now c.requires.whole)

pub overflow_add-number : goal.overflow_add-number
overflow_add-number c = omega (arith, c.loop-place-test.true, ap length c.requires.rows, few_rows c.args.inputs.now c.requires.whole)

pub loop-place-preserved : goal.loop-place-preserved
loop-place-preserved c =
    let inputs = c.args.inputs.now in
    let certificate = c.args.certificate.now in
    let known = inputs.crac.contingencies in
    let k = c.loop-place.place in
    let row : RunRow = get_or c.args.rows.now k no_row in
    let numbers = c.in-Some.numbers.now in
    let element = c.index-elements-row.result in
    let before = c.loop-place.table.text in
    let stands = sym c.in-Some.ensures.item in
    let named = c.put_labels.new.fields in
    let ours = labels known (k + 1) element (is_opposite row.direction) in
    let theirs = sides certificate (k + 1) numbers ++ (coefficients numbers ++ citations certificate (k + 1) numbers) in
    let first : named ≡ [] ++ ours =
    c.in_ok-put_labels.ensures
    ∙ (λ i. c.clear.ensures i ++ labels (c.as_slice-contingencies.ensures.items i) (k + 1) element (c.is_opposite.ensures i)) in
    let fields : c.put_proof.new.fields ≡ row_fields known certificate (k + 1) element (is_opposite row.direction) numbers =
    two_parts ours theirs [] named c.put_proof.new.fields first (c.in_ok-put_proof.ensures certificate (length c.args.rows.now + 1) c.in_ok-cites.ensures) in
    record_added inputs certificate k row numbers element c.args.table.now.text before c.put_fields.new.self.text
    (omega (arith, c.loop-place-test.true, ap length c.requires.rows)) (slice_get_within certificate.rows k numbers stands)
    (read_as inputs c.args.rows.now k no_row c.requires.rows c.loop-place-test.true) (sym (get_or_from_slice_get certificate.rows k numbers numbers stands))
    (c.index-elements-row.is ∙ ap (λ (es : List Element). get_or es row.element element) c.as_slice-elements.ensures.items)
    c.loop-place.invariant
    (c.in_ok-put_fields.ensures.ok ∙ ap (λ (f : List (List ℕ)). before ++ record_text f) fields)

pub returns : goal.returns
returns c =
    records_done c.args.inputs.now c.args.certificate.now c.loop-place.place c.args.table.now.text c.loop-place.table.text
    (omega (arith, c.loop-place-test.false, ap length c.requires.rows)) c.loop-place.invariant
