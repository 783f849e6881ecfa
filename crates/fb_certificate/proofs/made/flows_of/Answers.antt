use Rattle.std.proofs.Common.{◌≡◌, ◌<◌, List, length, get_or, Some, refl, sym, ap, subst, ◌∙◌}
use Rattle.std.specs.Prelude.{slice_get}
use Rattle.std.proofs.lemmas.Option.{slice_get_read, same_Some}
use Rattle.grid_laplacian.specs.Ranges.{IsOfGrid, IsInRange}
use Rattle.grid_state.specs.GridState.{GridState}
use Rattle.branch_spans.specs.FlowSpans.{ForBranch}
use Rattle.cnec_rows.specs.RowFlows.{branch_flows_of, AreFlows}
use Rattle.fb_certificate.proofs.FlowLaws.{proof_of}
use Rattle.fb_certificate.proofs.NumberLaws.{branch_below, state_within}
use Rattle.fb_certificate.proofs.RunLaws.{listed}
use Rattle.fb_certificate.proofs.WholeLaws.{are_keys, state_of_grid, state_in_range}
use Rattle.fb_certificate.proofs.made.flows_of.Goals as goal

pub bounds-as_slice-row : goal.bounds-as_slice-row
bounds-as_slice-row c =
    let inputs = c.args.inputs.now in
    let row = c.args.row.now in
    subst (λ (ss : List GridState). row.state < length ss) (sym c.as_slice.ensures.items) (state_within inputs c.requires.whole row (listed inputs row c.requires.listed))

pub branch_flows-requires-clause-of_grid : goal.branch_flows-requires-clause-of_grid
branch_flows-requires-clause-of_grid c =
    let inputs = c.args.inputs.now in
    let row = c.args.row.now in
    let s = c.index-as_slice-row.result in
    subst (λ (t : GridState). IsOfGrid inputs.grid t) (sym (c.index-as_slice-row.is ∙ ap (λ (ss : List GridState). get_or ss row.state s) c.as_slice.ensures.items))
    (state_of_grid inputs c.requires.whole row.state s (state_within inputs c.requires.whole row (listed inputs row c.requires.listed)))

pub branch_flows-requires-clause-range : goal.branch_flows-requires-clause-range
branch_flows-requires-clause-range c =
    let inputs = c.args.inputs.now in
    let row = c.args.row.now in
    let s = c.index-as_slice-row.result in
    subst (λ (t : GridState). IsInRange inputs.grid t) (sym (c.index-as_slice-row.is ∙ ap (λ (ss : List GridState). get_or ss row.state s) c.as_slice.ensures.items))
    (state_in_range inputs c.requires.whole row.state s (state_within inputs c.requires.whole row (listed inputs row c.requires.listed)))

pub branch_flows-requires-clause-branch : goal.branch_flows-requires-clause-branch
branch_flows-requires-clause-branch c =
    branch_below c.args.inputs.now c.requires.whole c.args.row.now (listed c.args.inputs.now c.args.row.now c.requires.listed)

pub branch_flows-requires-clause-keys : goal.branch_flows-requires-clause-keys
branch_flows-requires-clause-keys c = are_keys c.args.inputs.now c.requires.whole

pub branch_flows-requires-clause-proof : goal.branch_flows-requires-clause-proof
branch_flows-requires-clause-proof c =
    let inputs = c.args.inputs.now in
    let row = c.args.row.now in
    let s = c.index-as_slice-row.result in
    let within = state_within inputs c.requires.whole row (listed inputs row c.requires.listed) in
    let s_is = c.index-as_slice-row.is ∙ ap (λ (ss : List GridState). get_or ss row.state s) c.as_slice.ensures.items in
    let stands : slice_get inputs.states row.state ≡ Some s = slice_get_read inputs.states (length inputs.states) row.state s refl within s_is in
    proof_of inputs row.state s c.args.proof.now stands c.requires.proof

-- the state stands at the row's number
pub returns : goal.returns
returns c =
    let inputs = c.args.inputs.now in
    let row = c.args.row.now in
    let s = c.index-as_slice-row.result in
    let within = state_within inputs c.requires.whole row (listed inputs row c.requires.listed) in
    let s_is = c.index-as_slice-row.is ∙ ap (λ (ss : List GridState). get_or ss row.state s) c.as_slice.ensures.items in
    let stands : slice_get inputs.states row.state ≡ Some s = slice_get_read inputs.states (length inputs.states) row.state s refl within s_is in
    let flows = c.in_ok-flows.flows in
    record {
      same_state = refl;
      same_branch = refl;
      by = record {
        are = λ t there. subst (λ (t : GridState). AreFlows t inputs.grid inputs.keys.columns row.terms.branch flows) (same_Some s t (sym stands ∙ there)) c.in_ok-flows.ensures.flows;
        given = λ t there.
            subst (λ (t : GridState). ForBranch inputs.grid row.terms.branch (λ b. flows ≡ branch_flows_of t inputs.keys.columns b c.args.proof.now)) (same_Some s t (sym stands ∙ there))
            c.in_ok-flows.ensures.value;
      };
    }
