-- The flows of a branch in a state, as its rows take them.
use Rattle.std.proofs.Common.{◌≡◌, ℕ, ◌<◌, List, length, get_or, Option, Some, None, ap, subst, sym, ◌∙◌}
use Rattle.std.proofs.lemmas.Option.{get_or_from_slice_get, same_Some}
use Rattle.std.specs.Prelude.{IfSome, slice_get}
use Rattle.grid_state.specs.GridState.{GridState}
use Rattle.branch_spans.specs.FlowSpans.{ForBranch}
use Rattle.state_proofs.specs.StateProofs.{IsStateProof}
use Rattle.state_proofs.specs.declared.StateProof.{StateProof}
use Rattle.cnec_rows.specs.RowFlows.{branch_flows_of, AreFlows}
use Rattle.fb_certificate.specs.RowsMade.{AreFlowsBy, AreFlowsIn, AreRowFlows, IsProofAt}
use Rattle.fb_certificate.specs.Valid.{AreProofs}
use Rattle.fb_certificate.proofs.NumberLaws.{there}
use Rattle.fb_certificate.proofs.WholeLaws.{zip_get}
use Rattle.fb_certificate.specs.declared.types.Inputs.{Inputs}
use Rattle.fb_certificate.specs.declared.types.RunRow.{RunRow}
use Rattle.fb_certificate.specs.declared.made.StateFlows.{StateFlows}

module _ (inputs : Inputs) (proof : StateProof) (row : RunRow) (made : StateFlows) (h : AreRowFlows inputs proof row made) (s : GridState) (stands : slice_get inputs.states row.state ≡ Some s) where
  stands_there : slice_get inputs.states made.state ≡ Some s
  stands_there = ap (slice_get inputs.states) h.same_state ∙ stands

  pub flows_are : AreFlows s inputs.grid inputs.keys.columns row.terms.branch made.flows
  flows_are = subst (λ b. AreFlows s inputs.grid inputs.keys.columns b made.flows) h.same_branch (h.by.are s stands_there)

  pub flows_given : ForBranch inputs.grid row.terms.branch (λ c. made.flows ≡ branch_flows_of s inputs.keys.columns c proof)
  flows_given = subst (λ b. ForBranch inputs.grid b (λ c. made.flows ≡ branch_flows_of s inputs.keys.columns c proof)) h.same_branch (h.by.given s stands_there)

-- a proof at the state that stands there
pub proof_of : (inputs : Inputs) (k : ℕ) (s : GridState) (proof : StateProof) → slice_get inputs.states k ≡ Some s → IsProofAt inputs k proof → IsStateProof s inputs.grid inputs.keys.columns proof
proof_of inputs k s proof stands h = subst (λ (o : Option GridState). IfSome o (λ t. IsStateProof t inputs.grid inputs.keys.columns proof)) stands h

pub proof_at : (inputs : Inputs) (k : ℕ) (s : GridState) (proof : StateProof) → slice_get inputs.states k ≡ Some s → IsStateProof s inputs.grid inputs.keys.columns proof → IsProofAt inputs k proof
proof_at inputs k s proof stands h = subst (λ (o : Option GridState). IfSome o (λ t. IsStateProof t inputs.grid inputs.keys.columns proof)) (sym stands) h

-- ---- the proofs of all states

pub proof_among : (inputs : Inputs) (proofs : List StateProof) (k : ℕ) (proof : StateProof) → AreProofs inputs proofs → k < length inputs.states → proof ≡ get_or proofs k proof → IsProofAt inputs k proof
proof_among inputs proofs k proof are below read =
    let s = there inputs.states k below in
    proof_at inputs k s.0 proof s.1
    (subst (λ (t : GridState). IsStateProof t inputs.grid inputs.keys.columns proof) (get_or_from_slice_get inputs.states k s.0 s.0 s.1)
    (subst (λ (q : StateProof). IsStateProof (get_or inputs.states k s.0) inputs.grid inputs.keys.columns q) (sym read)
    (zip_get (λ (t : GridState) (q : StateProof). IsStateProof t inputs.grid inputs.keys.columns q) inputs.states proofs k s.0 proof are below)))

pub last_by : (inputs : Inputs) (proofs : List StateProof) (k : ℕ) (proof : StateProof) → slice_get proofs k ≡ Some proof → (last : Option StateFlows) → IfSome last (AreFlowsIn inputs proofs)
    → IfSome last (λ made. made.state ≡ k → AreFlowsBy inputs proof made)
last_by inputs proofs k proof stands None h = tt
last_by inputs proofs k proof stands (Some made) h = λ same. h proof (ap (slice_get proofs) same ∙ stands)

pub flows_in : (inputs : Inputs) (proofs : List StateProof) (row : RunRow) (proof : StateProof) (made : StateFlows) → slice_get proofs row.state ≡ Some proof → AreRowFlows inputs proof row made → AreFlowsIn inputs proofs made
flows_in inputs proofs row proof made stands h other there' =
    subst (λ (q : StateProof). AreFlowsBy inputs q made) (same_Some proof other (sym (ap (slice_get proofs) h.same_state ∙ stands) ∙ there')) h.by
