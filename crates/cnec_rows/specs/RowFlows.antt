-- The flows of a branch in its own direction, and the numbers of its rows from them. Nobody need believe them: the numbers of a row
-- are those of RowNumbers, however they are made.
use Rattle.std.specs.Prelude.{◌≡◌, ℕ, List, length, map, All}
use Rattle.std.specs.List.{AllZip}
use Rattle.fb_span.specs.Ends.{EndsWithin}
use Rattle.fb_types.specs.declared.grid.Grid.{Grid}
use Rattle.fb_types.specs.declared.keys.Column.{Column}
use Rattle.grid_state.specs.GridState.{GridState}
use Rattle.security.specs.Flows.{NumberedBranch}
use Rattle.branch_spans.specs.FlowSpans.{ForBranch}
use Rattle.zonal_factors.specs.FactorSpans.{HoldsFactor}
use Rattle.reference_flows.specs.ReferenceSpans.{reference_span_of, HoldsReference}
use Rattle.state_proofs.specs.declared.StateProof.{StateProof}
use Rattle.cnec_rows.specs.declared.types.BranchFlows.{BranchFlows}
use Rattle.cnec_rows.specs.declared.types.RowTerms.{RowTerms}
use Rattle.cnec_rows.specs.declared.types.RowZones.{RowZones}
use Rattle.cnec_rows.specs.declared.types.RowSpans.{RowSpans}
use Rattle.cnec_rows.specs.declared.types.RowProof.{RowProof}
use Rattle.cnec_rows.specs.RowNumbers.{directed, factors_from, of_core, spans_from, proof_from}

-- the flows of a branch, from its first node to its second
abbrev pub branch_flows_of : GridState → List Column → NumberedBranch → StateProof → BranchFlows
branch_flows_of s columns c proof = record {
  reference = reference_span_of s c proof.barrier proof.reference;
  factors = factors_from s c proof 0 columns;
}

-- the numbers of a row in its direction, from the flows of its branch
abbrev pub row_spans_on : RowZones → RowTerms → BranchFlows → RowSpans
row_spans_on zones terms flows =
    spans_from terms zones (directed terms.against flows.reference) (map (directed terms.against) flows.factors)

abbrev pub row_proof_on : RowZones → RowTerms → BranchFlows → RowProof
row_proof_on zones terms flows =
    proof_from terms zones (of_core zones.core (map (directed terms.against) flows.factors))
    (row_spans_on zones terms flows).ram (row_spans_on zones terms flows).spread

-- ---- What they hold

-- the spans hold the exact reference flow and factors of the branch, however the exact angles are written
pub record HoldFlows (s : GridState) (grid : Grid) (columns : List Column) (c : NumberedBranch) (flows : BranchFlows) : Type 0 where
  pub reference : HoldsReference s grid c flows.reference
  pub factors : AllZip (HoldsFactor s c) columns flows.factors

-- the flows of a branch: a factor for each column, spans in range, and the exact numbers in them
pub record AreFlows (s : GridState) (grid : Grid) (columns : List Column) (branch : ℕ) (flows : BranchFlows) : Type 0 where
  pub count : length flows.factors ≡ length columns
  pub reference_in : EndsWithin 3000000000000000000000000 flows.reference
  pub factors_in : All (EndsWithin 1000000000000) flows.factors
  pub hold : ForBranch grid branch (λ c. HoldFlows s grid columns c flows)
