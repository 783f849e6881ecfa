use Rattle.std.proofs.Common.{◌≡◌, ℕ, List, ◌++◌, map, subst, ap, ◌∙◌, Bor}
use Rattle.std.specs.Prelude.{IfOk, codes}
use Rattle.std.specs.List.{enumerate_from, flat_map, zip}
use Rattle.csv_rows.specs.Tables.{table_text}
use Rattle.certificate_text.specs.CertificateTexts.{certificate_text, block_places, state_ids, lines_of_state, lines_of_states, lines_of_rows, lines_text}
use Rattle.certificate_text.specs.Pieces.{cite_fields}
use Rattle.certificate_text.proofs.Appending.{whole_text}
use Rattle.certificate_text.proofs.write_certificate.Goals as goal

pub returns : goal.returns
returns c =
    let inputs = c.args.inputs.now in
    let certificate = c.args.certificate.now in
    let head = c.put_line.new.table.text in
    let ids : map (λ (id : Bor (List ℕ)). id.now) c.as_slice-2.result.now ≡ state_ids inputs =
    ap (map (λ (id : Bor (List ℕ)). id.now)) c.as_slice-2.ensures.value ∙ c.in_ok-ids.ensures in
    let places : c.as_slice-3.result.now ≡ block_places inputs.keys.columns =
    c.as_slice-3.ensures.value ∙ (c.in_ok-places.ensures ∙ ap block_places c.as_slice.ensures.items) in
    let proofs : c.as_slice-4.result.now ≡ certificate.states = c.as_slice-4.ensures.items in
    let states : c.put_states.new.table.text ≡ head ++ lines_text (lines_of_states inputs certificate.states) =
    c.in_ok-put_states.ensures ∙ (λ i. head ++ lines_text (flat_map (lines_of_state (places i)) (zip (enumerate_from 0 (ids i)) (proofs i)))) in
    let whole : c.put_line-2.new.table.text ≡ certificate_text inputs certificate =
    whole_text inputs certificate c.new-table.result.text head c.put_states.new.table.text c.put_rows.new.table.text
    c.put_cites.new.table.text c.put_cites-2.new.table.text c.put_line-2.new.table.text
    c.new-table.ensures.text c.in_ok-put_line.ensures states
    (c.in_ok-put_rows.ensures ∙ ap (λ rows. c.put_states.new.table.text ++ lines_text (lines_of_rows rows)) c.as_slice-5.ensures.items)
    (c.in_ok-put_cites.ensures ∙ ap (λ cites. c.put_rows.new.table.text ++ table_text (map (cite_fields (codes "inner")) cites)) c.as_slice-6.ensures.items)
    (c.in_ok-put_cites-2.ensures ∙ ap (λ cites. c.put_cites.new.table.text ++ table_text (map (cite_fields (codes "outer")) cites)) c.as_slice-7.ensures.items)
    c.in_ok-put_line-2.ensures in
    subst (λ (t : List ℕ). IfOk c.into_text.result (λ text. text.items ≡ t)) whole c.into_text.ensures.ok
