use Rattle.std.proofs.Common.{◌≡◌, ◌++◌, [], ◌∷◌, List, map, false, ap, sym, ◌∙◌, string_bytes, rules}
use Rattle.serde_json.specs.Data.{array}
use Rattle.serde_json.specs.View.{items_of}
use Rattle.serde_json.specs.Written.{compact_text}
use Rattle.fb_types.specs.declared.grid.Branch.{Branch}
use Rattle.fb_certificate.specs.CracRows.{crac_rows}
use Rattle.run_report.specs.Lines.{array_text, classes_text, head_text, inner_text, joined, line_text, outer_text}
use Rattle.run_report.specs.ReportTexts.{notes, row_trees}
use Rattle.run_report.proofs.Texts.{array_joined, line_is, line_joined, line_tree}
use Rattle.run_report.proofs.write_report.Goals as goal

pub returns : goal.returns
returns c =
    let inputs = c.args.inputs.now in
    let certificate = c.args.certificate.now in
    let spans = c.args.spans.now in
    let ids = notes inputs.grid.branches in
    let trees = row_trees (crac_rows inputs.crac.elements) certificate.rows spans in
    let texts = map compact_text trees in
    let said : c.as_str.result.now ≡ compact_text (array (items_of ids)) =
    c.as_str.ensures.value ∙ c.in_ok-notes-2.ensures
    ∙ ap array_text (c.as_slice-2.ensures.items ∙ c.in_ok-notes.ensures
    ∙ ap (λ (bs : List Branch). map compact_text (notes bs)) c.as_slice.ensures.items) ∙ sym (array_joined ids) in
    let bytes : c.into_bytes.result.items ≡ string_bytes c.push_str.new.self = search rules in
    let s = c.summary_of-summary.result in
    let h = c.summary_of-summary.ensures in
    let head = head_text s c.as_str.result.now in
    let line : string_bytes c.push_str.new.self ≡ (head ++ joined false texts) ++ 93 ∷ 125 ∷ 10 ∷ [] =
    c.in_ok-push_str.ensures.bytes ∙ ap (λ t. t ++ 93 ∷ 125 ∷ 10 ∷ []) (c.in_ok-put_rows.ensures ∙ ap (λ t. t ++ joined false texts) c.in_ok-line.ensures) in
    bytes ∙ line ∙ line_joined (classes_text s) (inner_text s) c.as_str.result.now (outer_text s) (joined false texts)
    ∙ (λ i. line_text s (said i) (sym (array_joined trees) i))
    ∙ line_is s (array (items_of ids)) (array (items_of trees))
    ∙ (λ i. compact_text (line_tree (h.below i) (h.doubtful i) (h.greatest_gap i) (h.inner_kept i)
    (h.inner_removed i) (array (items_of ids)) (h.outer_kept i) (h.outer_removed i) (array (items_of trees)))
    ++ 10 ∷ [])
