-- The lines of a certificate's text, each with its one text of three fields: its kind, its key and its value.
use Rattle.std.specs.Prelude.{ℕ, ◌<◌, ◌≤◌, ◌*◌, ◌^◌, ⊤, ℤ, List, [], ◌∷◌, ◌++◌, length, map, All, codes, FitsSigned, IsUtf8}
use Rattle.std.specs.Int.{w128}
use Rattle.std.specs.List.{join_with_byte}
use Rattle.std.specs.Fmt.{decimal, signed_decimal}
use Rattle.whole_laws.specs.Sums.{IsWithin}
use Rattle.fb_types.specs.declared.rows.Angles.{Angles}
use Rattle.cnec_rows.specs.declared.types.RowProof.{RowProof}
use Rattle.domain_report.specs.DomainTexts.{class_word, citation_text}
use Rattle.fb_certificate.specs.declared.types.Cite.{Cite}

-- the label of a column: its state, and its zone and its block from 1, which are both 0 for the reference
pub record Place : Type 0 where
  pub state : ℤ
  pub zone : ℤ
  pub block : ℤ

-- a line with its label. A state is labelled by its number from 0 and the id of its contingency, a barrier by the
-- number of its state, and a row by its number from 1
pub data Line : Type 0 where
  version_line : Line
  state_line : ℤ → List ℕ → Line
  barrier_line : ℤ → List ℤ → Line
  column_line : Place → Angles → Line
  row_line : ℤ → RowProof → Line
  inner_line : Cite → Line
  outer_line : Cite → Line
  end_line : Line

-- ---- Texts

-- numbers, parted by single blanks
abbrev pub numbers_text : List ℤ → List ℕ
numbers_text xs = join_with_byte 32 (map signed_decimal xs)

abbrev pub place_text : Place → List ℕ
place_text place = numbers_text (place.state ∷ place.zone ∷ place.block ∷ [])

-- kappa, and then w
abbrev pub angles_text : Angles → List ℕ
angles_text x = decimal x.kappa ++ 32 ∷ numbers_text x.w

-- the class, the right sides in the inner and in the outer list, and the coefficients
abbrev pub row_text : RowProof → List ℕ
row_text r = class_word r.class ++ 32 ∷ numbers_text (r.r_in ∷ r.r_out ∷ r.a)

-- its kind, its key and its value
abbrev pub fields_of : Line → List (List ℕ)
fields_of version_line = codes "version" ∷ [] ∷ codes "1" ∷ []
fields_of (state_line k id) = codes "state" ∷ signed_decimal k ∷ id ∷ []
fields_of (barrier_line k v) = codes "barrier" ∷ signed_decimal k ∷ numbers_text v ∷ []
fields_of (column_line place x) = codes "column" ∷ place_text place ∷ angles_text x ∷ []
fields_of (row_line n r) = codes "row" ∷ signed_decimal n ∷ row_text r ∷ []
fields_of (inner_line cite) = codes "inner" ∷ decimal cite.row ∷ citation_text cite.by ∷ []
fields_of (outer_line cite) = codes "outer" ∷ decimal cite.row ∷ citation_text cite.by ∷ []
fields_of end_line = codes "end" ∷ [] ∷ [] ∷ []

-- ---- Ranges

-- at least one number, each of 128 bits
pub record AreNumbers (xs : List ℤ) : Type 0 where
  pub some : 0 < length xs
  pub fit : All (FitsSigned w128) xs

-- kappa is 0 or 1
pub record IsGoodColumn (place : Place) (x : Angles) : Type 0 where
  pub state : FitsSigned w128 place.state
  pub zone : FitsSigned w128 place.zone
  pub block : FitsSigned w128 place.block
  pub kappa : x.kappa ≤ 1
  pub w : AreNumbers x.w

-- coefficients and right sides are in the ranges of rows
pub record IsGoodRow (r : RowProof) : Type 0 where
  pub some : 0 < length r.a
  pub coefficients : All (IsWithin (10 ^ 12)) r.a
  pub inner : IsWithin (2 * 10 ^ 13) r.r_in
  pub outer : IsWithin (2 * 10 ^ 13) r.r_out

-- numbers of rows have 32 bits; mu and the values of multipliers have no further limit
pub record IsGoodCite (cite : Cite) : Type 0 where
  pub row : cite.row < 2 ^ 32
  pub mu : FitsSigned w128 cite.by.mu
  pub rows : All (λ m. m.row < 2 ^ 32) cite.by.mults
  pub values : All (λ m. FitsSigned w128 m.value) cite.by.mults

-- a line whose text is a line of a certificate: its numbers are in their ranges, and its id is a text
abbrev pub IsGood : Line → Type 0
IsGood version_line = ⊤
IsGood (state_line k id) = FitsSigned w128 k × IsUtf8 id
IsGood (barrier_line k v) = FitsSigned w128 k × AreNumbers v
IsGood (column_line place x) = IsGoodColumn place x
IsGood (row_line n r) = FitsSigned w128 n × IsGoodRow r
IsGood (inner_line cite) = IsGoodCite cite
IsGood (outer_line cite) = IsGoodCite cite
IsGood end_line = ⊤
