use Rattle.std.proofs.Common.{◌<◌, List, length, get_or, sym, ap, subst, ◌∙◌, arith}
use Rattle.grid_state.specs.GridState.{GridState}
use Rattle.grid_laplacian.specs.Ranges.{IsOfGrid, IsInRange}
use Rattle.fb_certificate.specs.declared.types.Inputs.{Inputs}
use Rattle.fb_certificate.specs.Whole.{IsWhole}
use Rattle.fb_certificate.proofs.WholeLaws.{are_keys, keys_at_nodes, states_long, state_of_grid, state_in_range}
use Rattle.domain_maker.proofs.states.groundwork_of.Goals as goal

some : (inputs : Inputs) → IsWhole inputs → 0 < length inputs.states
some inputs whole = let long = states_long inputs whole in omega arith

pub bounds-states-0 : goal.bounds-states-0
bounds-states-0 c = let long = some c.args.inputs.now c.requires in let size = ap length c.as_slice-states.ensures.items in omega arith

pub new-requires-clause-of_grid : goal.new-requires-clause-of_grid
new-requires-clause-of_grid c =
    let inputs = c.args.inputs.now in
    let s = c.index-states-0.result in
    subst (λ (t : GridState). IsOfGrid inputs.grid t) (sym (c.index-states-0.is ∙ ap (λ (ss : List GridState). get_or ss 0 s) c.as_slice-states.ensures.items))
    (state_of_grid inputs c.requires 0 s (some inputs c.requires))

pub new-requires-clause-range : goal.new-requires-clause-range
new-requires-clause-range c =
    let inputs = c.args.inputs.now in
    let s = c.index-states-0.result in
    subst (λ (t : GridState). IsInRange inputs.grid t) (sym (c.index-states-0.is ∙ ap (λ (ss : List GridState). get_or ss 0 s) c.as_slice-states.ensures.items))
    (state_in_range inputs c.requires 0 s (some inputs c.requires))

pub new-requires-clause-keys : goal.new-requires-clause-keys
new-requires-clause-keys c = are_keys c.args.inputs.now c.requires

pub new-requires-clause-nodes : goal.new-requires-clause-nodes
new-requires-clause-nodes c = keys_at_nodes c.args.inputs.now c.requires
