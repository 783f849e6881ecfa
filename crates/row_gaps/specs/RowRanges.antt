-- The range of a row's numbers: words of lemmas, which nobody need believe.
-- It is the range of the rows of a list, and of those that a certificate's text takes.
use Rattle.std.specs.Prelude.{◌≡◌, ℕ, ◌*◌, ◌^◌, ◌<◌, List, length, All}
use Rattle.whole_laws.specs.Sums.{IsWithin}
use Rattle.fb_types.specs.declared.grid.Grid.{Grid}
use Rattle.fb_types.specs.declared.keys.Column.{Column}
use Rattle.grid_state.specs.GridState.{GridState}
use Rattle.security.specs.Flows.{NumberedBranch}
use Rattle.branch_spans.specs.FlowSpans.{IsBranchOf}
use Rattle.state_proofs.specs.declared.StateProof.{StateProof}
use Rattle.cnec_rows.specs.RowNumbers.{row_proof_of, AreTerms}
use Rattle.cnec_rows.specs.declared.types.RowTerms.{RowTerms}
use Rattle.cnec_rows.specs.declared.types.RowZones.{RowZones}
use Rattle.cnec_rows.specs.declared.types.RowProof.{RowProof}
use Rattle.row_gaps.specs.GapLaws.{IsProved}

-- a coefficient for each of so many zones, and at least one; they are within 10^12, and right sides within 2·10^13 W
pub record IsInRowRange (zones : ℕ) (row : RowProof) : Type 0 where
  pub long : length row.a ≡ zones
  pub some : 0 < length row.a
  pub coefficients : All (IsWithin (10 ^ 12)) row.a
  pub inner : IsWithin (2 * 10 ^ 13) row.r_in
  pub outer : IsWithin (2 * 10 ^ 13) row.r_out

-- for every row, whatever the proof of its state is
abbrev pub RowsAreInRange : GridState → Grid → Type 0
RowsAreInRange s grid =
    (columns : List Column) (zones : RowZones) (terms : RowTerms) (c : NumberedBranch) (proof : StateProof)
    → IsProved s grid columns zones proof → AreTerms terms → IsBranchOf grid c
    → IsInRowRange (length zones.bounds) (row_proof_of s columns zones terms c proof)
