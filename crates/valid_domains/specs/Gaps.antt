-- How near each other the two sides of a domain's rows are, and how near the threshold its doubtful rows. Both bounds
-- (`security/specs/Gaps.antt`) are computed from the inputs alone: from the susceptance of the row's branch and the
-- reach of its grid state.
use Rattle.std.specs.Prelude.{◌≡◌}
use Rattle.std.specs.List.{AllZip}
use Rattle.security.specs.Gaps.{HasSmallGap, IsNearThreshold}
use Rattle.security.specs.Rows.{Choice, IsChoice, spread_of_row}
use Rattle.security.specs.Secure.{RowPlace}
use Rattle.cnec_selection.specs.declared.Class.TheVariants.{Doubtful}
use Rattle.cnec_rows.specs.declared.types.RowProof.{RowProof}
use Rattle.fb_certificate.specs.CracRows.{CracRow, crac_rows}
use Rattle.fb_certificate.specs.Situations.{zones_in, IsPlaceOf, exact_row}
use Rattle.fb_certificate.specs.declared.types.Inputs.{Inputs}
use Rattle.fb_certificate.specs.declared.types.Certificate.{Certificate}

-- a row: its gap is from 0 to its bound, and it is doubtful only where its exact spread is near the threshold, whatever
-- exact angles are chosen
pub record IsRowNear (inputs : Inputs) (row : CracRow) (numbers : RowProof) : Type 0 where
  pub gap : (place : RowPlace) → IsPlaceOf inputs row place
      → HasSmallGap place.state place.branch numbers.r_in numbers.r_out
  pub doubt : numbers.class ≡ Doubtful → (place : RowPlace) → IsPlaceOf inputs row place
      → (choice : Choice) → IsChoice place.state inputs.grid (zones_in inputs) choice
      → IsNearThreshold place.state place.branch inputs.settings.threshold
      (spread_of_row place.state (exact_row inputs row place) choice)

-- each row of the CRAC, whatever its class and whether it is kept
pub record HasSmallGaps (inputs : Inputs) (c : Certificate) : Type 0 where
  pub rows : AllZip (IsRowNear inputs) (crac_rows inputs.crac.elements) c.rows
