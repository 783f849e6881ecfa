-- What the numbers of a row hold, however its state is proved: words of lemmas, which nobody need believe.
use Rattle.std.specs.Prelude.{List}
use Rattle.fb_types.specs.declared.grid.Grid.{Grid}
use Rattle.fb_types.specs.declared.keys.Column.{Column}
use Rattle.grid_state.specs.GridState.{GridState}
use Rattle.security.specs.Flows.{NumberedBranch}
use Rattle.branch_spans.specs.FlowSpans.{IsBranchOf}
use Rattle.state_proofs.specs.declared.StateProof.{StateProof}
use Rattle.cnec_rows.specs.RowNumbers.{row_on, keyed_zones, row_spans_of, row_proof_of, HoldNumbers, IsRightRow}
use Rattle.cnec_rows.specs.declared.types.RowTerms.{RowTerms}
use Rattle.cnec_rows.specs.declared.types.RowZones.{RowZones}
use Rattle.cnec_rows.specs.declared.types.RowSpans.{RowSpans}
use Rattle.cnec_rows.specs.declared.types.RowProof.{RowProof}
use Rattle.row_gaps.specs.GapLaws.{IsProved}

-- its spans hold the exact numbers, its class is right, and its two sides bracket the exact flow
pub record IsTrueRow (s : GridState) (grid : Grid) (columns : List Column) (zones : RowZones) (terms : RowTerms)
    (c : NumberedBranch) (spans : RowSpans) (row : RowProof) : Type 0 where
  pub holds : HoldNumbers s grid (keyed_zones columns zones) (row_on terms c) spans
  pub right : IsRightRow s grid columns zones (row_on terms c) terms.threshold row

abbrev pub RowsAreTrue : GridState → Grid → Type 0
RowsAreTrue s grid =
    (columns : List Column) (zones : RowZones) (terms : RowTerms) (c : NumberedBranch) (proof : StateProof)
    → IsProved s grid columns zones proof → IsBranchOf grid c
    → IsTrueRow s grid columns zones terms c
    (row_spans_of s columns zones terms c proof) (row_proof_of s columns zones terms c proof)
