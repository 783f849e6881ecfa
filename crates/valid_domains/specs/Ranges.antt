-- The ranges of a certificate's numbers: words of lemmas, which nobody need believe.
use Rattle.std.specs.Prelude.{ℕ, ◌<◌, List, length, All}
use Rattle.std.specs.List.{AllZip}
use Rattle.fb_types.specs.Domain.{IsHalfOver}
use Rattle.grid_state.specs.GridState.{classes_of}
use Rattle.state_proofs.specs.StateProofs.{all_blocks}
use Rattle.cnec_rows.specs.declared.types.RowProof.{RowProof}
use Rattle.run_settings.specs.Laws.{core_bounds}
use Rattle.row_gaps.specs.ProofRanges.{IsProofInRange}
use Rattle.row_gaps.specs.RowRanges.{IsInRowRange}
use Rattle.fb_certificate.specs.Lists.{inner_half, outer_half}
use Rattle.fb_certificate.specs.declared.types.Inputs.{Inputs}
use Rattle.fb_certificate.specs.declared.types.Certificate.{Certificate}

-- how many zones of Core there are
abbrev pub core_count : Inputs → ℕ
core_count inputs = length (core_bounds inputs.settings.zones)

-- there is a zone of Core, and the rows with either side are rows over the zones of Core
pub record AreRowsInRange (inputs : Inputs) (rows : List RowProof) : Type 0 where
  pub some : 0 < core_count inputs
  pub inner : All (λ row. IsHalfOver (core_count inputs) (inner_half row)) rows
  pub outer : All (λ row. IsHalfOver (core_count inputs) (outer_half row)) rows

-- The numbers of each state's proof and of each row are in the ranges that the text of a certificate takes: a number
-- for each class in each list, one list for each block, and a coefficient for each zone of Core in each row.
pub record HasNumbersInRange (inputs : Inputs) (c : Certificate) : Type 0 where
  pub states : AllZip (λ s proof. IsProofInRange (classes_of s) (length (all_blocks inputs.keys.columns)) proof)
      inputs.states c.states
  pub rows : All (IsInRowRange (core_count inputs)) c.rows
