-- The two sides of each row are near each other, and a doubtful row is near the threshold.
use Rattle.security.specs.Gaps.{HasSmallGap}
use Rattle.cnec_rows.specs.declared.types.RowProof.{RowProof}
use Rattle.row_gaps.specs.GapLaws.{IsDoubtfulNear}
use Rattle.row_gaps.proofs.Bounds.{gaps_small, doubts_near}
use Rattle.fb_certificate.specs.CracRows.{CracRow, crac_rows}
use Rattle.fb_certificate.specs.Situations.{stated, zones_in, branch_of, exact_row}
use Rattle.fb_certificate.specs.Valid.{IsRowOf, IsValid}
use Rattle.fb_certificate.specs.Whole.{IsWhole, row_zones}
use Rattle.fb_certificate.specs.declared.types.Inputs.{Inputs}
use Rattle.fb_certificate.specs.declared.types.Certificate.{Certificate}
use Rattle.valid_domains.specs.Gaps.{IsRowNear, HasSmallGaps}
use Rattle.valid_domains.proofs.Known.{zip_weaker, IsKnownRow, known_row, at_place}

row_near : (inputs : Inputs) (row : CracRow) (numbers : RowProof) → IsKnownRow inputs row numbers
    → IsRowNear inputs row numbers
row_near inputs row numbers known =
    let place = known.place in
    let state = known.state in
    let columns = inputs.keys.columns in
    let zones = row_zones inputs.settings inputs.keys in
    let terms = stated inputs row in
    let c = branch_of row place in
    let gap =
    gaps_small place.state inputs.grid state.sound state.of_grid state.range columns zones terms c known.proof
    known.proved (record { stands = known.is_place.branch }) in
    let doubt =
    doubts_near place.state inputs.grid state.sound state.of_grid state.range columns zones terms c known.proof
    known.proved (record { stands = known.is_place.branch }) in
    record {
      gap = at_place inputs row numbers known (λ p n. HasSmallGap p.state p.branch n.r_in n.r_out) gap;
      doubt = λ doubtful p is_place.
          at_place inputs row numbers known
          (λ q n. IsDoubtfulNear q.state inputs.grid (zones_in inputs) (exact_row inputs row q) inputs.settings.threshold n.class)
          doubt p is_place doubtful;
    }

pub small_gaps : (inputs : Inputs) (c : Certificate) → IsWhole inputs → IsValid inputs c → HasSmallGaps inputs c
small_gaps inputs c whole valid = record {
  rows =
      zip_weaker (IsRowOf inputs c.states) (IsRowNear inputs)
      (λ row numbers is. row_near inputs row numbers (known_row inputs whole c.states valid.states row numbers is))
      (crac_rows inputs.crac.elements) c.rows valid.rows;
}
