-- Rows that are made one after another, from the flows of their branches. Nobody need believe them: what is promised of each row is
-- told by the numbers and exact rows of Valid and Capacity.
use Rattle.std.specs.Prelude.{◌≡◌, ℕ, List, Some, slice_get, IfSome}
use Rattle.grid_state.specs.GridState.{GridState}
use Rattle.branch_spans.specs.FlowSpans.{ForBranch}
use Rattle.state_proofs.specs.StateProofs.{IsStateProof}
use Rattle.state_proofs.specs.declared.StateProof.{StateProof}
use Rattle.cnec_rows.specs.RowFlows.{branch_flows_of, AreFlows}
use Rattle.fb_certificate.specs.Capacity.{HoldRow, IsRight}
use Rattle.fb_certificate.specs.CracRows.{CracRow, state_of_row}
use Rattle.fb_certificate.specs.RunRows.{run_row}
use Rattle.fb_certificate.specs.Valid.{AreNumbersOf}
use Rattle.fb_certificate.specs.declared.types.Inputs.{Inputs}
use Rattle.fb_certificate.specs.declared.types.RunRow.{RunRow}
use Rattle.fb_certificate.specs.declared.made.MadeRow.{MadeRow}
use Rattle.fb_certificate.specs.declared.made.StateFlows.{StateFlows}

-- the proof is one of the state with this number
abbrev pub IsProofAt : Inputs → ℕ → StateProof → Type 0
IsProofAt inputs number proof =
    IfSome (slice_get inputs.states number) (λ s. IsStateProof s inputs.grid inputs.keys.columns proof)

-- the flows are those that the proof gives for their branch in their state
pub record AreFlowsBy (inputs : Inputs) (proof : StateProof) (made : StateFlows) : Type 0 where
  pub are : (s : GridState) → slice_get inputs.states made.state ≡ Some s → AreFlows s inputs.grid inputs.keys.columns made.branch made.flows
  pub given : (s : GridState) → slice_get inputs.states made.state ≡ Some s
      → ForBranch inputs.grid made.branch (λ c. made.flows ≡ branch_flows_of s inputs.keys.columns c proof)

-- the same of the proof that stands at their state, of those of all states
abbrev pub AreFlowsIn : Inputs → List StateProof → StateFlows → Type 0
AreFlowsIn inputs proofs made = (proof : StateProof) → slice_get proofs made.state ≡ Some proof → AreFlowsBy inputs proof made

-- the flows are those that the proof gives for the row's branch in its state
pub record AreRowFlows (inputs : Inputs) (proof : StateProof) (row : RunRow) (made : StateFlows) : Type 0 where
  pub same_state : made.state ≡ row.state
  pub same_branch : made.branch ≡ row.terms.branch
  pub by : AreFlowsBy inputs proof made

-- the numbers of a row are those that the proof gives, wherever it stands at the row's state; its spans hold the exact numbers, and
-- the row of the domain is right
pub record IsMadeBy (inputs : Inputs) (proof : StateProof) (row : RunRow) (made : MadeRow) : Type 0 where
  pub numbers : (c : CracRow) → run_row inputs c ≡ row
      → (proofs : List StateProof) → slice_get proofs (state_of_row inputs.outages c) ≡ Some proof
      → AreNumbersOf inputs proofs c made.spans made.numbers
  pub holds : (c : CracRow) → run_row inputs c ≡ row → HoldRow inputs c made.spans
  pub right : (c : CracRow) → run_row inputs c ≡ row → IsRight inputs c made.numbers
