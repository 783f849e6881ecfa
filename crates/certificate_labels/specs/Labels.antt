-- The labels of a certificate's records, up to the last row: which are due for the inputs, and the first that is wrong.
use Rattle.std.specs.Prelude.{◌≡◌, ◌≢◌, ℕ, ◌+◌, ◌<◌, pos, List, [], ◌∷◌, ◌++◌, length, map, take, Option, Some, None, slice_get, codes}
use Rattle.std.specs.Fmt.{signed_decimal}
use Rattle.std.specs.List.{enumerate_from, flat_map}
use Rattle.certificate_text.specs.CertificateTexts.{state_ids, block_places}
use Rattle.certificate_text.specs.Lines.{place_text}
use Rattle.fb_certificate.specs.CracRows.{crac_rows}
use Rattle.fb_certificate.specs.declared.types.Inputs.{Inputs}

-- ---- What is due

-- The label of a record is its first fields: its kind and its key, and of a state also its id.
abbrev pub column_label : ℕ → ℕ × ℕ → List (List ℕ)
column_label k place =
    codes "column" ∷ place_text (record { state = pos k; zone = pos place.0; block = pos place.1 }) ∷ []

-- the labels of the state with this number and id: of the state, its barrier, its reference and its blocks
abbrev pub labels_of_state : List (ℕ × ℕ) → ℕ × List ℕ → List (List (List ℕ))
labels_of_state places state =
    (codes "state" ∷ signed_decimal (pos state.0) ∷ state.1 ∷ [])
    ∷ (codes "barrier" ∷ signed_decimal (pos state.0) ∷ [])
    ∷ column_label state.0 (0, 0)
    ∷ map (column_label state.0) places

-- the label of the row with this number
abbrev pub row_label : ℕ → List (List ℕ)
row_label n = codes "row" ∷ signed_decimal (pos n) ∷ []

-- the labels that are due for the inputs, record by record: of the version, of each state, and of each row of the CRAC
abbrev pub due_labels : Inputs → List (List (List ℕ))
due_labels inputs =
    (codes "version" ∷ [] ∷ [])
    ∷ (flat_map (labels_of_state (block_places inputs.keys.columns)) (enumerate_from 0 (state_ids inputs))
    ++ map (λ row. row_label row.0) (enumerate_from 1 (crac_rows inputs.crac.elements)))

-- ---- What is wrong

-- the record is of the kind that is due, and its label is another
pub record IsMislabelled (label fields : List (List ℕ)) : Type 0 where
  pub kind : slice_get fields 0 ≡ slice_get label 0
  pub other : take (length label) fields ≢ label

-- the record at this place, from 0, is mislabelled
pub record IsWrongAt (due records : List (List (List ℕ))) (place : ℕ) : Type 0 where
  pub label : List (List ℕ)
  pub is_due : slice_get due place ≡ Some label
  pub fields : List (List ℕ)
  pub is_there : slice_get records place ≡ Some fields
  pub mislabelled : IsMislabelled label fields

-- no record that is due has a wrong label
abbrev pub AreLabelled : List (List (List ℕ)) → List (List (List ℕ)) → Type 0
AreLabelled due records = (place : ℕ) → ¬ IsWrongAt due records place

-- the record with this number, from 1, is the first with a wrong label
pub record IsFirstWrong (due records : List (List (List ℕ))) (number : ℕ) : Type 0 where
  pub place : ℕ
  pub number_is : number ≡ place + 1
  pub wrong : IsWrongAt due records place
  pub before : (i : ℕ) → i < place → ¬ IsWrongAt due records i

-- the first wrong label, if there is one
abbrev pub IsWrongLabel : List (List (List ℕ)) → List (List (List ℕ)) → Option ℕ → Type 0
IsWrongLabel due records None = AreLabelled due records
IsWrongLabel due records (Some number) = IsFirstWrong due records number
