-- Words of private contracts: keys and values, each with its one text. Nobody need believe them, since what the reader
-- answers is said in Reading.
use Rattle.std.specs.Prelude.{ℕ, ◌<◌, ◌≤◌, ◌*◌, ◌^◌, ⊤, List, [], ◌∷◌, ◌++◌, FitsSigned, IsUtf8}
use Rattle.std.specs.Int.{w128}
use Rattle.std.specs.List.{All}
use Rattle.std.specs.Fmt.{decimal, signed_decimal}
use Rattle.whole_laws.specs.Sums.{IsWithin}
use Rattle.number_lists.specs.Lists.{AreNumbers, numbers_text}
use Rattle.fb_types.specs.declared.rows.Angles.{Angles}
use Rattle.fb_types.specs.declared.rows.Mult.{Mult}
use Rattle.fb_types.specs.declared.rows.Multipliers.{Multipliers}
use Rattle.fb_certificate.specs.declared.types.Cite.{Cite}
use Rattle.certificate_text.specs.Lines.{Place, IsGoodRow, place_text, angles_text, row_text}
use Rattle.domain_report.specs.DomainTexts.{citation_text}
use Rattle.certificate_reader.specs.declared.values.Spot.{Spot}
use Rattle.certificate_reader.specs.declared.values.Side.{Side}
use Rattle.certificate_reader.specs.declared.values.Sides.{Sides}
use Rattle.certificate_reader.specs.declared.record.NamedState.{NamedState}
use Rattle.certificate_reader.specs.declared.record.Barrier.{Barrier}
use Rattle.certificate_reader.specs.declared.record.PlacedColumn.{PlacedColumn}
use Rattle.certificate_reader.specs.declared.record.NumberedRow.{NumberedRow}

abbrev pub IsAny : {X : Type 0} → X → Type 0
IsAny x = ⊤

-- ---- columns

abbrev pub place_of : Spot → Place
place_of s = record { state = s.state; zone = s.zone; block = s.block }

abbrev pub spot_text : Spot → List ℕ
spot_text s = place_text (place_of s)

pub record IsGoodSpot (s : Spot) : Type 0 where
  pub state : FitsSigned w128 s.state
  pub zone : FitsSigned w128 s.zone
  pub block : FitsSigned w128 s.block

abbrev pub IsGoodKappa : ℕ → Type 0
IsGoodKappa k = k ≤ 1

pub record IsGoodAngles (x : Angles) : Type 0 where
  pub kappa : IsGoodKappa x.kappa
  pub w : AreNumbers x.w

pub record IsGoodColumn (c : PlacedColumn) : Type 0 where
  pub spot : IsGoodSpot c.spot
  pub angles : IsGoodAngles c.angles

abbrev pub column_texts : PlacedColumn → List (List ℕ)
column_texts c = spot_text c.spot ∷ angles_text c.angles ∷ []

-- ---- states

pub record IsGoodState (s : NamedState) : Type 0 where
  pub number : FitsSigned w128 s.number
  pub id : IsUtf8 s.id

abbrev pub state_texts : NamedState → List (List ℕ)
state_texts s = signed_decimal s.number ∷ s.id ∷ []

pub record IsGoodBarrier (b : Barrier) : Type 0 where
  pub state : FitsSigned w128 b.state
  pub heights : AreNumbers b.heights

abbrev pub barrier_texts : Barrier → List (List ℕ)
barrier_texts b = signed_decimal b.state ∷ numbers_text b.heights ∷ []

-- ---- rows

abbrev pub IsGoodSide : Side → Type 0
IsGoodSide s = IsWithin (2 * 10 ^ 13) s.value

abbrev pub side_text : Side → List ℕ
side_text s = signed_decimal s.value ++ 32 ∷ s.rest.now

pub record AreGoodSides (s : Sides) : Type 0 where
  pub inner : IsWithin (2 * 10 ^ 13) s.r_in
  pub outer : IsWithin (2 * 10 ^ 13) s.r_out

abbrev pub sides_text : Sides → List ℕ
sides_text s = signed_decimal s.r_in ++ 32 ∷ (signed_decimal s.r_out ++ 32 ∷ s.rest.now)

pub record IsGoodNumbered (r : NumberedRow) : Type 0 where
  pub number : FitsSigned w128 r.number
  pub proof : IsGoodRow r.proof

abbrev pub row_texts : NumberedRow → List (List ℕ)
row_texts r = signed_decimal r.number ∷ row_text r.proof ∷ []

-- ---- removed rows

pub record IsGoodMult (m : Mult) : Type 0 where
  pub row : m.row < 2 ^ 32
  pub value : FitsSigned w128 m.value

abbrev pub mult_word : Mult → List ℕ
mult_word m = decimal m.row ++ 58 ∷ signed_decimal m.value

abbrev pub AreGoodMults : List Mult → Type 0
AreGoodMults ms = All IsGoodMult ms

pub record IsGoodBy (by : Multipliers) : Type 0 where
  pub mu : FitsSigned w128 by.mu
  pub mults : AreGoodMults by.mults

abbrev pub cite_texts : Cite → List (List ℕ)
cite_texts c = decimal c.row ∷ citation_text c.by ∷ []
