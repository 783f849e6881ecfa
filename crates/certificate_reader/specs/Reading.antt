-- What the text of a certificate says, and its first record that is none.
use Rattle.std.specs.Prelude.{◌≡◌, ℕ, ◌+◌, ◌<◌, ◌≤◌, pos, List, [], ◌∷◌, ◌++◌, length, map, take, Result, Ok, Err}
use Rattle.std.specs.List.{All, flat_map}
use Rattle.csv_rows.specs.Rows.{records_in}
use Rattle.state_proofs.specs.declared.StateProof.{StateProof}
use Rattle.fb_certificate.specs.declared.types.Certificate.{Certificate}
use Rattle.fb_certificate.specs.declared.types.Inputs.{Inputs}
use Rattle.certificate_text.specs.CertificateTexts.{state_ids, block_places}
use Rattle.certificate_text.specs.Lines.{Line, Place, version_line, state_line, barrier_line, column_line, row_line, inner_line, outer_line, end_line, fields_of, IsGood}
use Rattle.certificate_reader.specs.declared.reader.CertificateError.{CertificateError}
use Rattle.certificate_reader.specs.declared.reader.CertificateError.TheVariants.{BadRow, Memory}

-- ---- Lines without labels

abbrev pub no_place : Place
no_place = record { state = pos 0; zone = pos 0; block = pos 0 }

abbrev pub unlabelled : Line → Line
unlabelled version_line = version_line
unlabelled (state_line k id) = state_line (pos 0) []
unlabelled (barrier_line k v) = barrier_line (pos 0) v
unlabelled (column_line place x) = column_line no_place x
unlabelled (row_line n r) = row_line (pos 0) r
unlabelled (inner_line c) = inner_line c
unlabelled (outer_line c) = outer_line c
unlabelled end_line = end_line

-- a state, its barrier, the column of its reference, and the columns of its blocks
abbrev pub state_lines : StateProof → List Line
state_lines s =
    state_line (pos 0) []
    ∷ barrier_line (pos 0) s.barrier
    ∷ column_line no_place s.reference
    ∷ map (column_line no_place) s.blocks

-- the version, the states, the rows, the removed rows of the inner and of the outer list, and the end
abbrev pub lines_of : Certificate → List Line
lines_of c =
    version_line
    ∷ (flat_map state_lines c.states
    ++ (map (row_line (pos 0)) c.rows ++ (map inner_line c.inner ++ (map outer_line c.outer ++ end_line ∷ []))))

-- ---- Readings

-- the records are the lines of the certificate, whatever their labels
pub record AreRecordsOf (rows : List (List (List ℕ))) (c : Certificate) : Type 0 where
  pub lines : List Line
  pub good : All IsGood lines
  pub spelled : rows ≡ map fields_of lines
  pub version : c.version ≡ 1
  pub parts : map unlabelled lines ≡ lines_of c

-- the bytes are the certificate
abbrev pub IsReading : List ℕ → Certificate → Type 0
IsReading bytes c = AreRecordsOf (records_in bytes) c

-- the records of some certificate begin with these
pub record IsBeginning (rows : List (List (List ℕ))) : Type 0 where
  pub more : List (List (List ℕ))
  pub whole : Certificate
  pub are : AreRecordsOf (rows ++ more) whole

-- The record, counted from 1, is the first that is none: some certificate begins with the records before it, and none
-- begins with these and the record. Where some certificate begins with all records and they are none, it is the place
-- after the last.
pub record IsFirstBadRow (rows : List (List (List ℕ))) (row : ℕ) : Type 0 where
  pub before : ℕ
  pub place : row ≡ before + 1
  pub within : before ≤ length rows
  pub begun : IsBeginning (take before rows)
  pub broken : before < length rows → ¬ IsBeginning (take (before + 1) rows)
  pub unread : (c : Certificate) → ¬ AreRecordsOf rows c

-- ---- Texts

-- a certificate of version 1 with a proof for each state, and in each a column for each block
pub record HasDueLengths (inputs : Inputs) (c : Certificate) : Type 0 where
  pub version : c.version ≡ 1
  pub states : length c.states ≡ length (state_ids inputs)
  pub blocks : All (λ s. length s.blocks ≡ length (block_places inputs.keys.columns)) c.states

-- ---- Answers

-- what an answer of the reader says: the certificate that the bytes are, or their first record that is none; want of
-- memory may come at any text
abbrev pub SaysOf : List ℕ → Result Certificate CertificateError → Type 0
SaysOf bytes (Ok c) = IsReading bytes c
SaysOf bytes (Err (BadRow row)) = IsFirstBadRow (records_in bytes) row
SaysOf bytes (Err (Memory e)) = Unit {0}

-- the answer is this certificate, or memory ran out
abbrev pub IsCertificateOrMemory : Result Certificate CertificateError → Certificate → Type 0
IsCertificateOrMemory (Ok d) c = d ≡ c
IsCertificateOrMemory (Err (BadRow row)) c = ⊥
IsCertificateOrMemory (Err (Memory e)) c = Unit {0}

-- the answer is that this record is the first that is none, or memory ran out
abbrev pub IsBadRowOrMemory : Result Certificate CertificateError → ℕ → Type 0
IsBadRowOrMemory (Ok c) row = ⊥
IsBadRowOrMemory (Err (BadRow bad)) row = bad ≡ row
IsBadRowOrMemory (Err (Memory e)) row = Unit {0}
