-- Valid certificates.
use Rattle.std.specs.Prelude.{◌≡◌, List, Some, slice_get}
use Rattle.std.specs.List.{AllZip}
use Rattle.security.specs.Secure.{RowPlace}
use Rattle.state_proofs.specs.StateProofs.{IsStateProof}
use Rattle.state_proofs.specs.declared.StateProof.{StateProof}
use Rattle.cnec_rows.specs.RowNumbers.{row_spans_of, row_proof_of}
use Rattle.cnec_rows.specs.declared.types.RowSpans.{RowSpans}
use Rattle.cnec_rows.specs.declared.types.RowProof.{RowProof}
use Rattle.run_settings.specs.Laws.{core_bounds}
use Rattle.fb_certificate.specs.CracRows.{CracRow, crac_rows, state_of_row}
use Rattle.fb_certificate.specs.Whole.{row_zones}
use Rattle.fb_certificate.specs.Situations.{stated, IsPlaceOf, branch_of}
use Rattle.fb_certificate.specs.Lists.{inner_list, outer_list, AreCites}
use Rattle.fb_certificate.specs.declared.types.Inputs.{Inputs}
use Rattle.fb_certificate.specs.declared.types.Certificate.{Certificate}

-- the numbers of a row are those that the proofs of the states give
pub record AreNumbersOf (inputs : Inputs) (proofs : List StateProof) (row : CracRow) (spans : RowSpans) (numbers : RowProof) : Type 0 where
  pub place : RowPlace
  pub is_place : IsPlaceOf inputs row place
  pub proof : StateProof
  pub is_proof : slice_get proofs (state_of_row inputs.outages row) ≡ Some proof
  pub spans_are : spans ≡ row_spans_of place.state inputs.keys.columns (row_zones inputs.settings inputs.keys) (stated inputs row) (branch_of row place) proof
  pub numbers_are : numbers ≡ row_proof_of place.state inputs.keys.columns (row_zones inputs.settings inputs.keys) (stated inputs row) (branch_of row place) proof

pub record IsRowOf (inputs : Inputs) (proofs : List StateProof) (row : CracRow) (numbers : RowProof) : Type 0 where
  pub spans : RowSpans
  pub are : AreNumbersOf inputs proofs row spans numbers

-- each state is proved
abbrev pub AreProofs : Inputs → List StateProof → Type 0
AreProofs inputs proofs = AllZip (λ s proof. IsStateProof s inputs.grid inputs.keys.columns proof) inputs.states proofs

-- each row has its numbers, once and in order
abbrev pub AreRowsOf : Inputs → List StateProof → List RowProof → Type 0
AreRowsOf inputs proofs rows = AllZip (IsRowOf inputs proofs) (crac_rows inputs.crac.elements) rows

pub record IsValid (inputs : Inputs) (certificate : Certificate) : Type 0 where
  pub version : certificate.version ≡ 1
  pub states : AreProofs inputs certificate.states
  pub rows : AreRowsOf inputs certificate.states certificate.rows
  pub inner : AreCites inner_list (core_bounds inputs.settings.zones) certificate.rows certificate.inner
  pub outer : AreCites outer_list (core_bounds inputs.settings.zones) certificate.rows certificate.outer
