use Rattle.std.proofs.Common.{ℕ, ◌+◌, ◌<◌, List, [], ◌∷◌, ◌++◌, length, get_or, map, false, sym, ap, subst, ◌∙◌, arith, ◌≡◌, string_bytes}
use Rattle.std.proofs.lemmas.List.{length-map, take_all}
use Rattle.serde_json.specs.Written.{compact_text}
use Rattle.run_report.specs.Lines.{joined}
use Rattle.run_report.specs.ReportTexts.{row_trees}
use Rattle.fb_types.specs.declared.crac.Element.{Element}
use Rattle.cnec_rows.specs.declared.types.RowProof.{RowProof}
use Rattle.fb_certificate.specs.CracRows.{crac_rows}
use Rattle.fb_certificate.specs.RunRows.{is_opposite, run_row, run_rows}
use Rattle.fb_certificate.specs.declared.types.RunRow.{RunRow}
use Rattle.fb_certificate.proofs.RunLaws.{few_rows}
use Rattle.domain_report.proofs.RunRecords.{element_within, no_row, read_as}
use Rattle.run_report.proofs.RowTrees.{many_texts, text_at}
use Rattle.run_report.proofs.Texts.{joined_next, row_is}
use Rattle.run_report.proofs.rows.put_rows.Goals as goal

pub bounds-elements-row : goal.bounds-elements-row
bounds-elements-row c =
    let rows = c.as_slice-row-items.result.now in
    subst (λ (es : List Element). (get_or rows c.loop-place.place no_row).element < length es)
    (sym c.as_slice-elements.ensures.items)
    (element_within c.args.inputs.now rows c.loop-place.place no_row
    (c.as_slice-row-items.ensures.value ∙ c.in_ok-rows.ensures) c.loop-place-test.true)

pub overflow_cast-place : goal.overflow_cast-place
overflow_cast-place c =
    omega (
      arith,
      c.loop-place-test.true,
      ap length (c.as_slice-row-items.ensures.value ∙ c.in_ok-rows.ensures),
      few_rows c.args.inputs.now c.requires.whole,
    )

pub overflow_add-place : goal.overflow_add-place
overflow_add-place c =
    omega (
      arith,
      c.loop-place-test.true,
      ap length (c.as_slice-row-items.ensures.value ∙ c.in_ok-rows.ensures),
      few_rows c.args.inputs.now c.requires.whole,
    )

pub bounds-numbers-place : goal.bounds-numbers-place
bounds-numbers-place c =
    let inputs = c.args.inputs.now in
    let certificate = c.args.certificate.now in
    let rows = crac_rows inputs.crac.elements in
    omega (
      arith,
      c.loop-place-test.true,
      ap length (c.as_slice-row-items.ensures.value ∙ c.in_ok-rows.ensures),
      ap length c.as_slice-numbers.ensures.items,
      length-map rows (run_row inputs),
      c.requires.rows,
    )

pub loop-place-preserved : goal.loop-place-preserved
loop-place-preserved c =
    let inputs = c.args.inputs.now in
    let certificate = c.args.certificate.now in
    let rows = crac_rows inputs.crac.elements in
    let k = c.loop-place.place in
    let same = c.as_slice-row-items.ensures.value ∙ c.in_ok-rows.ensures in
    let long = c.requires.rows in
    let row : RunRow = get_or c.as_slice-row-items.result.now k no_row in
    let numbers = c.index-numbers-place.result in
    let spans = c.args.spans.now in
    let within : k < length (run_rows inputs) = omega (arith, c.loop-place-test.true, ap length same) in
    let text = string_bytes c.in_ok-text.text in
    let texts = map compact_text (row_trees rows certificate.rows spans) in
    let at : text ≡ get_or texts k text = text_at inputs certificate.rows spans long c.requires.spans k row numbers c.index-spans-place.result
    c.index-elements-row.result text within
    (read_as inputs c.as_slice-row-items.result.now k no_row same c.loop-place-test.true)
    (c.index-numbers-place.is ∙ ap (λ (ns : List RowProof). get_or ns k numbers) c.as_slice-numbers.ensures.items)
    c.index-spans-place.is
    (c.index-elements-row.is
    ∙ ap (λ (es : List Element). get_or es row.element c.index-elements-row.result) c.as_slice-elements.ensures.items)
    (c.in_ok-text.ensures
    ∙ row_is (k + 1) c.index-elements-row.result (is_opposite row.direction) numbers c.index-spans-place.result) in
    let item : c.as_str.result.now ≡ get_or texts k text = c.as_str.ensures.value ∙ at in
    joined_next texts k text (string_bytes c.args.line.now) (string_bytes c.loop-place.line) (string_bytes c.put_item.new.text)
    (omega (arith, within, many_texts inputs certificate.rows spans long c.requires.spans)) c.loop-place.invariant
    (λ first. c.in_ok-put_item.ensures.first first ∙ ap (λ t. string_bytes c.loop-place.line ++ t) item)
    (λ more. c.in_ok-put_item.ensures.more more ∙ ap (λ t. (string_bytes c.loop-place.line ++ 44 ∷ []) ++ t) item)

pub returns : goal.returns
returns c =
    let inputs = c.args.inputs.now in
    let certificate = c.args.certificate.now in
    let spans = c.args.spans.now in
    let same = c.as_slice-row-items.ensures.value ∙ c.in_ok-rows.ensures in
    let texts = map compact_text (row_trees (crac_rows inputs.crac.elements) certificate.rows spans) in
    c.loop-place.invariant ∙ ap (λ (ts : List (List ℕ)). string_bytes c.args.line.now ++ joined false ts)
    (take_all c.loop-place.place texts
    (omega (arith, c.loop-place-test.false, ap length same, many_texts inputs certificate.rows spans c.requires.rows c.requires.spans)))
