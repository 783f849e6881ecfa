-- The text of a certificate of version 1: a CSV table with a line for the version, the lines of each state, a line for
-- each row and for each row that is removed from the inner and from the outer list, and a last line.
use Rattle.std.specs.Prelude.{ℕ, pos, List, [], ◌∷◌, ◌++◌, map, Some}
use Rattle.std.specs.List.{flat_map, enumerate_from, zip}
use Rattle.csv_rows.specs.Tables.{table_text}
use Rattle.fb_types.specs.declared.keys.Column.{Column}
use Rattle.fb_types.specs.declared.rows.Angles.{Angles}
use Rattle.state_proofs.specs.declared.StateProof.{StateProof}
use Rattle.cnec_rows.specs.declared.types.RowProof.{RowProof}
use Rattle.domain_report.specs.DomainTexts.{contingency_id}
use Rattle.fb_certificate.specs.declared.types.Certificate.{Certificate}
use Rattle.fb_certificate.specs.declared.types.Inputs.{Inputs}
use Rattle.certificate_text.specs.Lines.{Line, version_line, state_line, barrier_line, column_line, row_line, inner_line, outer_line, end_line, fields_of}

-- ---- What is due for the inputs

-- the id of the contingency of each state, empty for the base state
abbrev pub state_ids : Inputs → List (List ℕ)
state_ids inputs = [] ∷ map (λ k. contingency_id inputs.crac.contingencies (Some k)) inputs.outages

-- the zone and the number of each block, zone by zone, both from 1
abbrev pub zone_places : ℕ × Column → List (ℕ × ℕ)
zone_places zone = map (λ block. (zone.0, block.0)) (enumerate_from 1 zone.1.blocks)

abbrev pub block_places : List Column → List (ℕ × ℕ)
block_places columns = flat_map zone_places (enumerate_from 1 columns)

-- ---- The lines

-- a column of the state with this number, at a zone and a block
abbrev pub line_of_column : ℕ → (ℕ × ℕ) × Angles → Line
line_of_column k column = column_line (record { state = pos k; zone = pos column.0.0; block = pos column.0.1 }) column.1

-- the state with this number and id: its contingency, its barrier, and the columns of the reference and of each block
abbrev pub lines_of_state : List (ℕ × ℕ) → (ℕ × List ℕ) × StateProof → List Line
lines_of_state places state =
    let k = state.0.0 in
    let proof = state.1 in
    state_line (pos k) state.0.1
    ∷ barrier_line (pos k) proof.barrier
    ∷ line_of_column k ((0, 0), proof.reference)
    ∷ map (line_of_column k) (zip places proof.blocks)

abbrev pub lines_of_states : Inputs → List StateProof → List Line
lines_of_states inputs proofs =
    flat_map (lines_of_state (block_places inputs.keys.columns)) (zip (enumerate_from 0 (state_ids inputs)) proofs)

-- the rows, numbered from 1
abbrev pub line_of_row : ℕ × RowProof → Line
line_of_row row = row_line (pos row.0) row.1

abbrev pub lines_of_rows : List RowProof → List Line
lines_of_rows rows = map line_of_row (enumerate_from 1 rows)

-- the lines of a certificate, with the labels that are due for the inputs
abbrev pub labelled : Inputs → Certificate → List Line
labelled inputs certificate =
    version_line
    ∷ (lines_of_states inputs certificate.states
    ++ (lines_of_rows certificate.rows
    ++ (map inner_line certificate.inner ++ (map outer_line certificate.outer ++ end_line ∷ []))))

-- ---- Their text

abbrev pub lines_text : List Line → List ℕ
lines_text lines = table_text (map fields_of lines)

abbrev pub certificate_text : Inputs → Certificate → List ℕ
certificate_text inputs certificate = lines_text (labelled inputs certificate)
