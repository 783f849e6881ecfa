-- The bounds of the Core zones are a box, and the rows are few.
use Rattle.std.proofs.Common.{◌<◌, ◌^◌, List, length, arith}
use Rattle.std.specs.Prelude.{All}
use Rattle.std.proofs.lemmas.List.{length-map}
use Rattle.fb_types.specs.Domain.{AreBounds, IsHalfOver}
use Rattle.multiplier_search.specs.Found.{IsBox}
use Rattle.multiplier_search.proofs.HoldsPoint.{box-of-point}
use Rattle.run_settings.specs.Laws.{core_bounds}
use Rattle.fb_certificate.specs.CracRows.{crac_rows}
use Rattle.fb_certificate.specs.RunRows.{run_row}
use Rattle.fb_certificate.specs.Valid.{AreRowsOf, IsRowOf}
use Rattle.fb_certificate.specs.Whole.{IsWhole}
use Rattle.fb_certificate.specs.declared.types.Inputs.{Inputs}
use Rattle.fb_certificate.proofs.RunLaws.{few_rows as few_run_rows}
use Rattle.fb_certificate.proofs.WholeLaws.{zip_length, zones_fit}
use Rattle.row_removal.specs.Kinds.{kind_of}
use Rattle.row_removal.specs.declared.domain_list.DomainList.{DomainList}
use Rattle.row_removal.specs.declared.domain_list.DomainList.TheVariants.{Inner, Outer}
use Rattle.valid_domains.specs.Ranges.{AreRowsInRange}
use Rattle.cnec_rows.specs.declared.types.RowProof.{RowProof}
use Rattle.state_proofs.specs.declared.StateProof.{StateProof}

pub bounds_fit : (inputs : Inputs) → IsWhole inputs → AreBounds (core_bounds inputs.settings.zones)
bounds_fit inputs whole = (zones_fit inputs whole).in_range

pub is_box : (inputs : Inputs) → IsWhole inputs → IsBox (core_bounds inputs.settings.zones)
is_box inputs whole = let point = whole.settings.point in box-of-point (core_bounds inputs.settings.zones) point.0 (zones_fit inputs whole).some point.1

-- ---- the number of rows

pub few_rows : (inputs : Inputs) (states : List StateProof) (rows : List RowProof) → IsWhole inputs → AreRowsOf inputs states rows → length rows < 2 ^ 32
few_rows inputs states rows whole are =
    let long = zip_length (IsRowOf inputs states) (crac_rows inputs.crac.elements) rows are in
    omega (arith, long, length-map (crac_rows inputs.crac.elements) (run_row inputs), few_run_rows inputs whole)

-- ---- the rows are in range, with the right side of either list

pub rows_over : (inputs : Inputs) (rows : List RowProof) (list : DomainList) → AreRowsInRange inputs rows → All (λ row. IsHalfOver (length (core_bounds inputs.settings.zones)) ((kind_of list).half row)) rows
rows_over inputs rows Inner h = h.inner
rows_over inputs rows Outer h = h.outer
