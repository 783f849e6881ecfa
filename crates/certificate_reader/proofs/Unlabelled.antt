-- The lines that are written are the certificate's, with the labels that are due.
use Rattle.std.proofs.Common.{◌≡◌, ℕ, ◌+◌, pos, List, [], ◌∷◌, ◌++◌, length, map, refl, ap, ap₂, ◌∙◌, arith}
use Rattle.std.specs.List.{All, flat_map, enumerate_from, zip}
use Rattle.std.proofs.lemmas.List.{map-append}
use Rattle.std.proofs.lemmas.List.Elements.{All-head, All-tail}
use Rattle.fb_types.specs.declared.rows.Angles.{Angles}
use Rattle.state_proofs.specs.declared.StateProof.{StateProof}
use Rattle.cnec_rows.specs.declared.types.RowProof.{RowProof}
use Rattle.fb_certificate.specs.declared.types.Certificate.{Certificate}
use Rattle.fb_certificate.specs.declared.types.Cite.{Cite}
use Rattle.fb_certificate.specs.declared.types.Inputs.{Inputs}
use Rattle.certificate_text.specs.CertificateTexts.{state_ids, block_places, line_of_column, lines_of_state, lines_of_states, line_of_row, lines_of_rows, labelled}
use Rattle.certificate_text.specs.Lines.{Line, version_line, state_line, barrier_line, column_line, row_line, inner_line, outer_line, end_line}
use Rattle.certificate_reader.specs.Reading.{no_place, unlabelled, state_lines, lines_of, HasDueLengths}

columns_unlabelled : (k : ℕ) (places : List (ℕ × ℕ)) (xs : List Angles) → length xs ≡ length places → map unlabelled (map (line_of_column k) (zip places xs)) ≡ map (column_line no_place) xs
columns_unlabelled k [] [] e = refl
columns_unlabelled k [] (x ∷ xs) e = absurd (omega (arith, e))
columns_unlabelled k (p ∷ places) [] e = absurd (omega (arith, e))
columns_unlabelled k (p ∷ places) (x ∷ xs) e = ap (λ (ls : List Line). column_line no_place x ∷ ls) (columns_unlabelled k places xs (omega (arith, e)))

states_unlabelled : (places : List (ℕ × ℕ)) (k : ℕ) (ids : List (List ℕ)) (proofs : List StateProof) → length proofs ≡ length ids → All (λ s. length s.blocks ≡ length places) proofs → map unlabelled (flat_map (lines_of_state places) (zip (enumerate_from k ids) proofs)) ≡ flat_map state_lines proofs
states_unlabelled places k [] [] e h = refl
states_unlabelled places k [] (s ∷ proofs) e h = absurd (omega (arith, e))
states_unlabelled places k (id ∷ ids) [] e h = absurd (omega (arith, e))
states_unlabelled places k (id ∷ ids) (s ∷ proofs) e h =
    let here = map (line_of_column k) (zip places s.blocks) in
    let rest = flat_map (lines_of_state places) (zip (enumerate_from (k + 1) ids) proofs) in
    ap (λ (ls : List Line). state_line (pos 0) [] ∷ barrier_line (pos 0) s.barrier ∷ column_line no_place s.reference ∷ ls)
    (map-append unlabelled here rest
    ∙ ap₂ (λ (xs ys : List Line). xs ++ ys)
    (columns_unlabelled k places s.blocks (All-head (λ s. length s.blocks ≡ length places) s proofs h))
    (states_unlabelled places (k + 1) ids proofs (omega (arith, e)) (All-tail (λ s. length s.blocks ≡ length places) s proofs h)))

rows_unlabelled : (n : ℕ) (rows : List RowProof) → map unlabelled (map line_of_row (enumerate_from n rows)) ≡ map (row_line (pos 0)) rows
rows_unlabelled n [] = refl
rows_unlabelled n (r ∷ rows) = ap (λ (ls : List Line). row_line (pos 0) r ∷ ls) (rows_unlabelled (n + 1) rows)

inner_unlabelled : (cs : List Cite) → map unlabelled (map inner_line cs) ≡ map inner_line cs
inner_unlabelled [] = refl
inner_unlabelled (c ∷ cs) = ap (λ (ls : List Line). inner_line c ∷ ls) (inner_unlabelled cs)

outer_unlabelled : (cs : List Cite) → map unlabelled (map outer_line cs) ≡ map outer_line cs
outer_unlabelled [] = refl
outer_unlabelled (c ∷ cs) = ap (λ (ls : List Line). outer_line c ∷ ls) (outer_unlabelled cs)

joined : (a b c d : List Line) (a' b' c' d' e : List Line) → map unlabelled a ≡ a' → map unlabelled b ≡ b' → map unlabelled c ≡ c' → map unlabelled d ≡ d' → map unlabelled e ≡ e → map unlabelled (a ++ (b ++ (c ++ (d ++ e)))) ≡ a' ++ (b' ++ (c' ++ (d' ++ e)))
joined a b c d a' b' c' d' e ha hb hc hd he =
    map-append unlabelled a (b ++ (c ++ (d ++ e)))
    ∙ ap₂ (λ (x y : List Line). x ++ y) ha (map-append unlabelled b (c ++ (d ++ e))
    ∙ ap₂ (λ (x y : List Line). x ++ y) hb (map-append unlabelled c (d ++ e)
    ∙ ap₂ (λ (x y : List Line). x ++ y) hc (map-append unlabelled d e
    ∙ ap₂ (λ (x y : List Line). x ++ y) hd he)))

pub labelled_is : (inputs : Inputs) (c : Certificate) → HasDueLengths inputs c → map unlabelled (labelled inputs c) ≡ lines_of c
labelled_is inputs c h =
    ap (λ (ls : List Line). version_line ∷ ls)
    (joined (lines_of_states inputs c.states) (lines_of_rows c.rows) (map inner_line c.inner) (map outer_line c.outer)
    (flat_map state_lines c.states) (map (row_line (pos 0)) c.rows) (map inner_line c.inner) (map outer_line c.outer) (end_line ∷ [])
    (states_unlabelled (block_places inputs.keys.columns) 0 (state_ids inputs) c.states h.states h.blocks)
    (rows_unlabelled 1 c.rows) (inner_unlabelled c.inner) (outer_unlabelled c.outer) refl)
