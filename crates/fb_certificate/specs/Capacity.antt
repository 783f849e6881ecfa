-- What the rows and the two lists of a certificate say of security: the capacity theorem (`security/specs/Capacity.antt`) for the
-- situation of the inputs.
use Rattle.std.specs.Prelude.{◌≡◌, ℕ, ℤ, List, IfSome, true}
use Rattle.std.specs.List.{AllZip}
use Rattle.fb_types.specs.Domain.{Meets}
use Rattle.security.specs.Secure.{RowPlace}
use Rattle.security.specs.Capacity.{BracketSecure}
use Rattle.cnec_rows.specs.RowNumbers.{HoldNumbers, IsRightRow}
use Rattle.cnec_rows.specs.declared.types.RowSpans.{RowSpans}
use Rattle.cnec_rows.specs.declared.types.RowProof.{RowProof}
use Rattle.fb_certificate.specs.CracRows.{CracRow, crac_rows}
use Rattle.fb_certificate.specs.Whole.{row_zones}
use Rattle.fb_certificate.specs.Situations.{situation_of, zones_in, IsPlaceOf, exact_row}
use Rattle.fb_certificate.specs.Lists.{ListKind, inner_list, outer_list, numbered, is_listed, is_kept}
use Rattle.fb_certificate.specs.declared.types.Inputs.{Inputs}
use Rattle.fb_certificate.specs.declared.types.Certificate.{Certificate}

-- x meets the row with this number, with the right side of the list
abbrev pub MeetsRow : ListKind → List RowProof → List ℤ → ℕ → Type 0
MeetsRow kind rows x number = IfSome (numbered rows number) (λ row. Meets (kind.half row) x)

-- x meets all kept rows of the inner list; x meets all rows of the outer list
abbrev pub MeetsInner : Certificate → List ℤ → Type 0
MeetsInner c x = (number : ℕ) → is_kept inner_list c.rows c.inner number ≡ true → MeetsRow inner_list c.rows x number

abbrev pub MeetsOuter : Certificate → List ℤ → Type 0
MeetsOuter c x = (number : ℕ) → is_listed outer_list c.rows number ≡ true → MeetsRow outer_list c.rows x number

-- each row, whatever its class, is right: its class, and that its two sides bracket its exact flow
abbrev pub IsRight : Inputs → CracRow → RowProof → Type 0
IsRight inputs row numbers =
    (place : RowPlace) → IsPlaceOf inputs row place
    → IsRightRow place.state inputs.grid inputs.keys.columns (row_zones inputs.settings inputs.keys) (exact_row inputs row place) inputs.settings.threshold numbers

-- the spans of a row hold its exact numbers
abbrev pub HoldRow : Inputs → CracRow → RowSpans → Type 0
HoldRow inputs row spans =
    (place : RowPlace) → IsPlaceOf inputs row place → HoldNumbers place.state inputs.grid (zones_in inputs) (exact_row inputs row place) spans

-- The capacity theorem: every balanced list of net positions in the box that meets the kept inner rows is secure, and every
-- secure one meets all outer rows. And each row, whatever its class, is right.
pub record IsCapacity (inputs : Inputs) (c : Certificate) : Type 0 where
  pub rows : AllZip (IsRight inputs) (crac_rows inputs.crac.elements) c.rows
  pub secure : BracketSecure (situation_of inputs) (MeetsInner c) (MeetsOuter c)
