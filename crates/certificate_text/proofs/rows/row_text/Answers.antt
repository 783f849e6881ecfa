use Rattle.std.proofs.Common.{rules, w64, string_bytes, [], ◌∷◌, ◌++◌, ap, ◌∙◌}
use Rattle.std.proofs.lemmas.Int.{to_z-of_z}
use Rattle.domain_report.specs.DomainTexts.{class_word}
use Rattle.certificate_text.specs.Pieces.{spaced_text}
use Rattle.certificate_text.proofs.Appending.{row_pieces}
use Rattle.certificate_text.proofs.rows.row_text.Goals as goal

pub returns : goal.returns
returns c =
    let row = c.args.row.now in
    let word = string_bytes c.in_ok-text.text in
    let inner = to_z-of_z w64 row.r_in (search rules) in
    let outer = to_z-of_z w64 row.r_out (search rules) in
    row_pieces (class_word row.class) row.r_in row.r_out row.a word (string_bytes c.put_spaced.new.text) (string_bytes c.put_spaced-2.new.text)
    (c.in_ok-text.ensures.ok ∙ c.class_word.ensures)
    (c.in_ok-put_spaced.ensures ∙ (λ i. word ++ spaced_text (inner i ∷ outer i ∷ [])))
    (c.in_ok-put_spaced-2.ensures ∙ ap (λ a. string_bytes c.put_spaced.new.text ++ spaced_text a) c.as_slice.ensures.items)
