-- How near the sides of a row are, however its state is proved: words of lemmas, which nobody need believe.
use Rattle.std.specs.Prelude.{◌≡◌, ℕ, List, All}
use Rattle.fb_types.specs.declared.grid.Grid.{Grid}
use Rattle.fb_types.specs.declared.keys.Column.{Column}
use Rattle.grid_state.specs.GridState.{GridState}
use Rattle.security.specs.Flows.{NumberedBranch}
use Rattle.security.specs.Gaps.{stretch_of, HasSmallGap, IsNearThreshold}
use Rattle.security.specs.Rows.{Row, KeyedZone, Choice, IsChoice, spread_of_row}
use Rattle.branch_spans.specs.FlowSpans.{IsBranchOf}
use Rattle.zonal_factors.specs.FactorSpans.{IsKey}
use Rattle.state_proofs.specs.StateProofs.{IsStateProof}
use Rattle.state_proofs.specs.declared.StateProof.{StateProof}
use Rattle.cnec_selection.specs.declared.Class.{Class}
use Rattle.cnec_selection.specs.declared.Class.TheVariants.{Doubtful}
use Rattle.cnec_rows.specs.RowNumbers.{row_on, keyed_zones, factor_spans, row_spans_of, row_proof_of, AreRowZones}
use Rattle.cnec_rows.specs.declared.types.RowTerms.{RowTerms}
use Rattle.cnec_rows.specs.declared.types.RowZones.{RowZones}
use Rattle.row_gaps.specs.Widths.{HasGreatTotals, AreNarrow}

-- a proof of the state, for these keys and zones
pub record IsProved (s : GridState) (grid : Grid) (columns : List Column) (zones : RowZones) (proof : StateProof)
    : Type 0 where
  pub keys : All IsKey columns
  pub great : All HasGreatTotals columns
  pub fit : AreRowZones columns zones
  pub proves : IsStateProof s grid columns proof

-- for every row, whatever the proof of its state is: each span is narrow
abbrev pub RowsAreNarrow : GridState → Grid → Type 0
RowsAreNarrow s grid =
    (columns : List Column) (zones : RowZones) (terms : RowTerms) (c : NumberedBranch) (proof : StateProof)
    → IsProved s grid columns zones proof → IsBranchOf grid c
    → AreNarrow (stretch_of s c.branch) zones (factor_spans s c terms.against columns proof)
    (row_spans_of s columns zones terms c proof) (row_proof_of s columns zones terms c proof)

-- the two right sides are near each other
abbrev pub GapsAreSmall : GridState → Grid → Type 0
GapsAreSmall s grid =
    (columns : List Column) (zones : RowZones) (terms : RowTerms) (c : NumberedBranch) (proof : StateProof)
    → IsProved s grid columns zones proof → IsBranchOf grid c
    → HasSmallGap s c.branch
    (row_proof_of s columns zones terms c proof).r_in (row_proof_of s columns zones terms c proof).r_out

-- a row is doubtful only where its exact spread is near the threshold, whatever exact angles are chosen
abbrev pub IsDoubtfulNear : GridState → Grid → List KeyedZone → Row → ℕ → Class → Type 0
IsDoubtfulNear s grid zones row threshold class =
    class ≡ Doubtful → (choice : Choice) → IsChoice s grid zones choice
    → IsNearThreshold s row.branch.branch threshold (spread_of_row s row choice)

abbrev pub DoubtsAreNear : GridState → Grid → Type 0
DoubtsAreNear s grid =
    (columns : List Column) (zones : RowZones) (terms : RowTerms) (c : NumberedBranch) (proof : StateProof)
    → IsProved s grid columns zones proof → IsBranchOf grid c
    → IsDoubtfulNear s grid (keyed_zones columns zones) (row_on terms c) terms.threshold
    (row_proof_of s columns zones terms c proof).class
