-- The numbers of a valid certificate are in their ranges.
use Rattle.std.proofs.Common.{◌≡◌, ℕ, suc, List, [], ◌∷◌, length, All, Some, refl, sym, subst}
use Rattle.std.specs.Prelude.{slice_get}
use Rattle.std.specs.List.{AllZip}
use Rattle.std.proofs.lemmas.List.Elements.{All-weaker}
use Rattle.fb_types.specs.Domain.{IsHalfOver}
use Rattle.grid_state.specs.GridState.{GridState, classes_of}
use Rattle.state_proofs.specs.StateProofs.{IsStateProof, all_blocks}
use Rattle.state_proofs.specs.declared.StateProof.{StateProof}
use Rattle.cnec_rows.specs.declared.types.RowProof.{RowProof}
use Rattle.row_gaps.specs.ProofRanges.{IsProofInRange}
use Rattle.row_gaps.specs.RowRanges.{IsInRowRange}
use Rattle.row_gaps.proofs.ProofSizes.{proofs_in_range}
use Rattle.row_gaps.proofs.Sizes.{rows_in_range}
use Rattle.fb_certificate.specs.CracRows.{CracRow, crac_rows}
use Rattle.fb_certificate.specs.Lists.{inner_half, outer_half}
use Rattle.fb_certificate.specs.RunRows.{IsCracRow}
use Rattle.fb_certificate.specs.Situations.{stated, branch_of}
use Rattle.fb_certificate.specs.Valid.{IsRowOf, AreProofs, AreRowsOf, IsValid}
use Rattle.fb_certificate.specs.Whole.{IsWhole, row_zones}
use Rattle.fb_certificate.proofs.RunLaws.{crac_rows_are}
use Rattle.fb_certificate.proofs.WholeLaws.{zones_fit, stated_fit}
use Rattle.fb_certificate.specs.declared.types.Inputs.{Inputs}
use Rattle.fb_certificate.specs.declared.types.Certificate.{Certificate}
use Rattle.valid_domains.specs.Ranges.{core_count, AreRowsInRange, HasNumbersInRange}
use Rattle.valid_domains.proofs.Known.{seconds, IsKnownState, known_state, IsKnownRow, known_row}

-- ---- rows

row_in_range : (inputs : Inputs) → IsWhole inputs → (row : CracRow) → IsCracRow inputs.crac.elements row
    → (numbers : RowProof) → IsKnownRow inputs row numbers → IsInRowRange (core_count inputs) numbers
row_in_range inputs whole row fits numbers known =
    let place = known.place in
    let state = known.state in
    subst (IsInRowRange (core_count inputs)) (sym known.numbers_are)
    (rows_in_range place.state inputs.grid state.sound state.of_grid state.range inputs.keys.columns
    (row_zones inputs.settings inputs.keys) (stated inputs row) (branch_of row place) known.proof known.proved
    (stated_fit inputs whole row fits) (record { stands = known.is_place.branch }))

each_in_range : (inputs : Inputs) → IsWhole inputs → (proofs : List StateProof) → AreProofs inputs proofs
    → (rows : List RowProof) → AreRowsOf inputs proofs rows → All (IsInRowRange (core_count inputs)) rows
each_in_range inputs whole proofs proved rows due =
    seconds (IsRowOf inputs proofs) (IsCracRow inputs.crac.elements) (IsInRowRange (core_count inputs))
    (λ row numbers fits is. row_in_range inputs whole row fits numbers (known_row inputs whole proofs proved row numbers is))
    (crac_rows inputs.crac.elements) rows (crac_rows_are inputs.crac.elements) due

pub rows_in_box : (inputs : Inputs) (proofs : List StateProof) (rows : List RowProof) → IsWhole inputs
    → AreProofs inputs proofs → AreRowsOf inputs proofs rows → AreRowsInRange inputs rows
rows_in_box inputs proofs rows whole proved due =
    let zones = core_count inputs in
    let all = each_in_range inputs whole proofs proved rows due in
    record {
      some = (zones_fit inputs whole).some;
      inner = All-weaker (IsInRowRange zones) (λ row. IsHalfOver zones (inner_half row))
          (λ row r. record { long = r.long; coefficients = r.coefficients; side = r.inner }) rows all;
      outer = All-weaker (IsInRowRange zones) (λ row. IsHalfOver zones (outer_half row))
          (λ row r. record { long = r.long; coefficients = r.coefficients; side = r.outer }) rows all;
    }

-- ---- proofs of states

each_proof : (inputs : Inputs) (states : List GridState) (proofs : List StateProof)
    → ((k : ℕ) (s : GridState) → slice_get states k ≡ Some s → IsKnownState inputs s)
    → AllZip (λ s p. IsStateProof s inputs.grid inputs.keys.columns p) states proofs
    → AllZip (λ s proof. IsProofInRange (classes_of s) (length (all_blocks inputs.keys.columns)) proof) states proofs
each_proof inputs [] [] known h = tt
each_proof inputs [] (p ∷ proofs) known h = absurd h
each_proof inputs (s ∷ states) [] known h = absurd h
each_proof inputs (s ∷ states) (p ∷ proofs) known h =
    let here = known 0 s refl in
    (proofs_in_range s inputs.grid here.sound here.range inputs.keys.columns p h.0, each_proof inputs states proofs (λ k t e. known (suc k) t e) h.1)

pub numbers_in_range : (inputs : Inputs) (c : Certificate) → IsWhole inputs → IsValid inputs c
    → HasNumbersInRange inputs c
numbers_in_range inputs c whole valid = record {
  states = each_proof inputs inputs.states c.states (known_state inputs whole) valid.states;
  rows = each_in_range inputs whole c.states valid.states c.rows valid.rows;
}
