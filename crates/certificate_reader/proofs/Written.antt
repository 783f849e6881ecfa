-- What is written record by record reads as the same records.
use Rattle.std.proofs.Common.{◌≡◌, ℕ, ◌<◌, false, List, [], ◌∷◌, ◌++◌, length, map, refl, ap, ◌∙◌, arith}
use Rattle.std.specs.Prelude.{None, ◌==◌}
use Rattle.std.specs.List.{All}
use Rattle.std.proofs.lemmas.List.Elements.{All-head, All-tail, All-cons, All-nil}
use Rattle.csv.specs.Machine.{next_record}
use Rattle.csv.specs.Reading.{default_config, strip_bom}
use Rattle.csv.specs.Writing.{row_text, default_writer, read_back}
use Rattle.csv.specs.declared.parser.State.TheVariants as st
use Rattle.csv.proofs.RoundTrip.{read-write}
use Rattle.csv_rows.specs.Rows.{records_in}
use Rattle.csv_rows.specs.Tables.{table_text}
use Rattle.csv_rows.proofs.Determined.{took, no_row, RowsAt}
use Rattle.fb_certificate.specs.declared.types.Certificate.{Certificate}
use Rattle.fb_certificate.specs.declared.types.Inputs.{Inputs}
use Rattle.certificate_text.specs.CertificateTexts.{labelled, certificate_text}
use Rattle.certificate_text.specs.Lines.{Line, version_line, state_line, barrier_line, column_line, row_line, inner_line, outer_line, end_line, fields_of, IsGood}
use Rattle.certificate_reader.specs.Reading.{IsReading, HasDueLengths}
use Rattle.certificate_reader.proofs.Unlabelled.{labelled_is}

back : (r : List (List ℕ)) → 0 < length r → read_back r ≡ r
back [] l = absurd (omega arith)
back (x ∷ r) l = refl

nothing : next_record default_config st.StartRecord [] [] [] ≡ None
unfolding next_record
nothing = refl

written : (rows : List (List (List ℕ))) → All (λ r. 0 < length r) rows → RowsAt st.StartRecord (table_text rows) ≡ rows
written [] h = no_row 1 st.StartRecord [] nothing
written (r ∷ rs) h =
    (took st.StartRecord st.StartRecord (row_text default_writer r ++ table_text rs) (table_text rs) (read_back r) refl (read-write r (table_text rs))).0
    ∙ (λ i. back r (All-head (λ r. 0 < length r) r rs h) i ∷ written rs (All-tail (λ r. 0 < length r) r rs h) i)

rows_written : (rows : List (List (List ℕ))) → All (λ r. 0 < length r) rows → strip_bom (table_text rows) ≡ table_text rows → records_in (table_text rows) ≡ rows
rows_written rows h e = ap (λ t. RowsAt st.StartRecord t) e ∙ written rows h

-- a text that begins with another byte has no byte order mark
no_bom : (c : ℕ) (rest : List ℕ) → (c == 0xEF) ≡ false → strip_bom (c ∷ rest) ≡ c ∷ rest
unfolding strip_bom
no_bom c [] e = refl
no_bom c (a ∷ []) e = refl
no_bom c (a ∷ b ∷ rest) e = rw e refl

some_field : (l : Line) → 0 < length (fields_of l)
some_field version_line = omega arith
some_field (state_line k id) = omega arith
some_field (barrier_line k v) = omega arith
some_field (column_line place x) = omega arith
some_field (row_line n r) = omega arith
some_field (inner_line c) = omega arith
some_field (outer_line c) = omega arith
some_field end_line = omega arith

all_fields : (ls : List Line) → All (λ r. 0 < length r) (map fields_of ls)
all_fields [] = All-nil (λ (r : List (List ℕ)). 0 < length r)
all_fields (l ∷ ls) = All-cons (λ (r : List (List ℕ)). 0 < length r) (fields_of l) (map fields_of ls) (some_field l) (all_fields ls)

-- the text of a certificate holds its lines, whatever their ranges
pub records_written : (inputs : Inputs) (c : Certificate) → records_in (certificate_text inputs c) ≡ map fields_of (labelled inputs c)
records_written inputs c = rows_written (map fields_of (labelled inputs c)) (all_fields (labelled inputs c)) (no_bom 118 _ refl)

pub reads_back : (inputs : Inputs) (c : Certificate) → HasDueLengths inputs c → All IsGood (labelled inputs c) → IsReading (certificate_text inputs c) c
reads_back inputs c h good = record {
  lines = labelled inputs c;
  good = good;
  spelled = records_written inputs c;
  version = h.version;
  parts = labelled_is inputs c h;
}
