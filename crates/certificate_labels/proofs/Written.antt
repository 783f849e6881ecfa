-- The lines that are written have the labels that are due.
use Rattle.std.proofs.Common.{◌≡◌, ℕ, zero, suc, ◌+◌, pos, List, [], ◌∷◌, ◌++◌, length, map, take, refl, sym, ap, ap₂, ◌∙◌, subst, arith, append_assoc}
use Rattle.std.specs.Prelude.{Some, None, codes}
use Rattle.std.specs.Fmt.{decimal, signed_decimal}
use Rattle.std.specs.List.{All, flat_map, enumerate_from, zip}
use Rattle.std.proofs.lemmas.List.{map-append}
use Rattle.std.proofs.lemmas.List.Elements.{All-head, All-tail}
use Rattle.fb_types.specs.declared.rows.Angles.{Angles}
use Rattle.state_proofs.specs.declared.StateProof.{StateProof}
use Rattle.cnec_rows.specs.declared.types.RowProof.{RowProof}
use Rattle.fb_certificate.specs.CracRows.{CracRow, crac_rows}
use Rattle.fb_certificate.specs.declared.types.Certificate.{Certificate}
use Rattle.fb_certificate.specs.declared.types.Inputs.{Inputs}
use Rattle.certificate_text.specs.CertificateTexts.{state_ids, block_places, line_of_column, lines_of_state, lines_of_states, line_of_row, lines_of_rows, labelled}
use Rattle.certificate_text.specs.Lines.{Line, version_line, state_line, barrier_line, column_line, row_line, inner_line, outer_line, end_line, fields_of, place_text}
use Rattle.certificate_reader.specs.Reading.{HasDueLengths}
use Rattle.certificate_labels.specs.Labels.{column_label, row_label, labels_of_state, due_labels, AreLabelled, IsWrongAt}

-- ---- Labels of lines

-- the first fields of a line
abbrev label_of_line : Line → List (List ℕ)
label_of_line version_line = codes "version" ∷ [] ∷ []
label_of_line (state_line k id) = codes "state" ∷ signed_decimal k ∷ id ∷ []
label_of_line (barrier_line k v) = codes "barrier" ∷ signed_decimal k ∷ []
label_of_line (column_line place x) = codes "column" ∷ place_text place ∷ []
label_of_line (row_line n r) = codes "row" ∷ signed_decimal n ∷ []
label_of_line (inner_line cite) = codes "inner" ∷ decimal cite.row ∷ []
label_of_line (outer_line cite) = codes "outer" ∷ decimal cite.row ∷ []
label_of_line end_line = codes "end" ∷ [] ∷ []

begins : (l : Line) → take (length (label_of_line l)) (fields_of l) ≡ label_of_line l
begins version_line = refl
begins (state_line k id) = refl
begins (barrier_line k v) = refl
begins (column_line place x) = refl
begins (row_line n r) = refl
begins (inner_line cite) = refl
begins (outer_line cite) = refl
begins end_line = refl

-- no line is mislabelled beside its own label
well_labelled : (ls more : List Line) (i : ℕ) → ¬ IsWrongAt (map label_of_line ls) (map fields_of (ls ++ more)) i
well_labelled [] more i = λ w. let due = w.is_due in cc
well_labelled (l ∷ ls) more zero = λ w.
    let same : label_of_line l ≡ w.label = cc (w.is_due) in
    let equal : fields_of l ≡ w.fields = cc (w.is_there) in
    w.mislabelled.other (subst (λ x. take (length x) w.fields ≡ x) same (subst (λ f. take (length (label_of_line l)) f ≡ label_of_line l) equal (begins l)))
well_labelled (l ∷ ls) more (suc i) = λ w.
    well_labelled ls more i (record { label = w.label; is_due = w.is_due; fields = w.fields; is_there = w.is_there; mislabelled = w.mislabelled })

-- ---- The lines of states and rows

columns_labelled : (k : ℕ) (places : List (ℕ × ℕ)) (xs : List Angles) → length xs ≡ length places → map label_of_line (map (line_of_column k) (zip places xs)) ≡ map (column_label k) places
columns_labelled k [] [] e = refl
columns_labelled k [] (x ∷ xs) e = absurd (omega (arith, e))
columns_labelled k (p ∷ places) [] e = absurd (omega (arith, e))
columns_labelled k (p ∷ places) (x ∷ xs) e = ap (λ (ls : List (List (List ℕ))). column_label k p ∷ ls) (columns_labelled k places xs (omega (arith, e)))

states_labelled : (places : List (ℕ × ℕ)) (k : ℕ) (ids : List (List ℕ)) (proofs : List StateProof) → length proofs ≡ length ids → All (λ s. length s.blocks ≡ length places) proofs
    → map label_of_line (flat_map (lines_of_state places) (zip (enumerate_from k ids) proofs)) ≡ flat_map (labels_of_state places) (enumerate_from k ids)
states_labelled places k [] [] e h = refl
states_labelled places k [] (s ∷ proofs) e h = absurd (omega (arith, e))
states_labelled places k (id ∷ ids) [] e h = absurd (omega (arith, e))
states_labelled places k (id ∷ ids) (s ∷ proofs) e h =
    let here = map (line_of_column k) (zip places s.blocks) in
    let rest = flat_map (lines_of_state places) (zip (enumerate_from (k + 1) ids) proofs) in
    ap (λ (ls : List (List (List ℕ))). (codes "state" ∷ signed_decimal (pos k) ∷ id ∷ []) ∷ (codes "barrier" ∷ signed_decimal (pos k) ∷ []) ∷ column_label k (0, 0) ∷ ls)
    (map-append label_of_line here rest
    ∙ ap₂ (λ (xs ys : List (List (List ℕ))). xs ++ ys)
    (columns_labelled k places s.blocks (All-head (λ s. length s.blocks ≡ length places) s proofs h))
    (states_labelled places (k + 1) ids proofs (omega (arith, e)) (All-tail (λ s. length s.blocks ≡ length places) s proofs h)))

rows_labelled : (n : ℕ) (rows : List RowProof) (due : List CracRow) → length rows ≡ length due → map label_of_line (map line_of_row (enumerate_from n rows)) ≡ map (λ row. row_label row.0) (enumerate_from n due)
rows_labelled n [] [] e = refl
rows_labelled n [] (d ∷ due) e = absurd (omega (arith, e))
rows_labelled n (r ∷ rows) [] e = absurd (omega (arith, e))
rows_labelled n (r ∷ rows) (d ∷ due) e = ap (λ (ls : List (List (List ℕ))). row_label n ∷ ls) (rows_labelled (n + 1) rows due (omega (arith, e)))

-- ---- The whole

-- the lines up to the last row
abbrev first_lines : Inputs → Certificate → List Line
first_lines inputs c = version_line ∷ (lines_of_states inputs c.states ++ lines_of_rows c.rows)

first_labelled : (inputs : Inputs) (c : Certificate) → HasDueLengths inputs c → length c.rows ≡ length (crac_rows inputs.crac.elements) → map label_of_line (first_lines inputs c) ≡ due_labels inputs
first_labelled inputs c h rows =
    ap (λ (ls : List (List (List ℕ))). (codes "version" ∷ [] ∷ []) ∷ ls)
    (map-append label_of_line (lines_of_states inputs c.states) (lines_of_rows c.rows)
    ∙ ap₂ (λ (xs ys : List (List (List ℕ))). xs ++ ys)
    (states_labelled (block_places inputs.keys.columns) 0 (state_ids inputs) c.states h.states h.blocks)
    (rows_labelled 1 c.rows (crac_rows inputs.crac.elements) rows))

pub labels_are_due : (inputs : Inputs) (c : Certificate) → HasDueLengths inputs c → length c.rows ≡ length (crac_rows inputs.crac.elements) → AreLabelled (due_labels inputs) (map fields_of (labelled inputs c))
labels_are_due inputs c h rows =
    let more = map inner_line c.inner ++ (map outer_line c.outer ++ end_line ∷ []) in
    let split : first_lines inputs c ++ more ≡ labelled inputs c = ap (λ (ls : List Line). version_line ∷ ls) (append_assoc (lines_of_states inputs c.states) (lines_of_rows c.rows) more) in
    subst (λ due. AreLabelled due (map fields_of (labelled inputs c))) (first_labelled inputs c h rows)
    (subst (λ ls. AreLabelled (map label_of_line (first_lines inputs c)) (map fields_of ls)) split (well_labelled (first_lines inputs c) more))
