use Rattle.std.proofs.Common.{◌≡◌, ◌<◌, List, length, get_or, Some, refl, sym, ap, subst, ◌∙◌}
use Rattle.std.specs.Prelude.{slice_get}
use Rattle.std.proofs.lemmas.Option.{slice_get_read}
use Rattle.grid_laplacian.specs.Ranges.{IsOfGrid, IsInRange}
use Rattle.grid_state.specs.GridState.{GridState}
use Rattle.cnec_rows.specs.RowNumbers.{AreRowZones}
use Rattle.cnec_rows.specs.RowFlows.{row_proof_on, row_spans_on}
use Rattle.cnec_rows.specs.declared.types.RowZones.{RowZones}
use Rattle.fb_certificate.specs.declared.types.RunRow.{RunRow}
use Rattle.fb_certificate.proofs.FlowLaws.{flows_are, flows_given}
use Rattle.fb_certificate.proofs.NumberLaws.{terms_fit, branch_below, state_within, numbers_found, hold_found, right_found, state_stands}
use Rattle.fb_certificate.proofs.RunLaws.{listed}
use Rattle.fb_certificate.proofs.WholeLaws.{zones_fit, state_of_grid, state_in_range}
use Rattle.fb_certificate.proofs.made.row_after.Goals as goal

pub bounds-as_slice-row : goal.bounds-as_slice-row
bounds-as_slice-row c =
    let inputs = c.args.inputs.now in
    let row = c.args.row.now in
    subst (λ (ss : List GridState). row.state < length ss) (sym c.as_slice.ensures.items) (state_within inputs c.requires.whole row (listed inputs row c.requires.listed))

pub row_on-requires-clause-of_grid : goal.row_on-requires-clause-of_grid
row_on-requires-clause-of_grid c =
    let inputs = c.args.inputs.now in
    let row = c.args.row.now in
    let s = c.index-as_slice-row.result in
    subst (λ (t : GridState). IsOfGrid inputs.grid t) (sym (c.index-as_slice-row.is ∙ ap (λ (ss : List GridState). get_or ss row.state s) c.as_slice.ensures.items))
    (state_of_grid inputs c.requires.whole row.state s (state_within inputs c.requires.whole row (listed inputs row c.requires.listed)))

pub row_on-requires-clause-range : goal.row_on-requires-clause-range
row_on-requires-clause-range c =
    let inputs = c.args.inputs.now in
    let row = c.args.row.now in
    let s = c.index-as_slice-row.result in
    subst (λ (t : GridState). IsInRange inputs.grid t) (sym (c.index-as_slice-row.is ∙ ap (λ (ss : List GridState). get_or ss row.state s) c.as_slice.ensures.items))
    (state_in_range inputs c.requires.whole row.state s (state_within inputs c.requires.whole row (listed inputs row c.requires.listed)))

pub row_on-requires-clause-zones : goal.row_on-requires-clause-zones
row_on-requires-clause-zones c = subst (λ (z : RowZones). AreRowZones c.args.inputs.now.keys.columns z) (sym c.requires.zones) (zones_fit c.args.inputs.now c.requires.whole)

pub row_on-requires-clause-terms : goal.row_on-requires-clause-terms
row_on-requires-clause-terms c =
    terms_fit c.args.inputs.now c.requires.whole c.args.row.now (listed c.args.inputs.now c.args.row.now c.requires.listed)

pub row_on-requires-clause-flows : goal.row_on-requires-clause-flows
row_on-requires-clause-flows c =
    let inputs = c.args.inputs.now in
    let row = c.args.row.now in
    let s = c.index-as_slice-row.result in
    let within = state_within inputs c.requires.whole row (listed inputs row c.requires.listed) in
    let s_is = c.index-as_slice-row.is ∙ ap (λ (ss : List GridState). get_or ss row.state s) c.as_slice.ensures.items in
    let stands : slice_get inputs.states row.state ≡ Some s = slice_get_read inputs.states (length inputs.states) row.state s refl within s_is in
    flows_are inputs c.args.proof.now row c.in_ok-made.made c.in_ok-made.ensures s stands

-- the state stands at the row's number
pub returns-clause-made : goal.returns-clause-made
returns-clause-made c =
    let inputs = c.args.inputs.now in
    let row = c.args.row.now in
    let s = c.index-as_slice-row.result in
    let within = state_within inputs c.requires.whole row (listed inputs row c.requires.listed) in
    let s_is = c.index-as_slice-row.is ∙ ap (λ (ss : List GridState). get_or ss row.state s) c.as_slice.ensures.items in
    let stands : slice_get inputs.states row.state ≡ Some s = slice_get_read inputs.states (length inputs.states) row.state s refl within s_is in
    let zones = c.args.zones.now in
    let proof = c.args.proof.now in
    let given = flows_given inputs proof row c.in_ok-made.made c.in_ok-made.ensures s stands in
    let of = listed inputs row c.requires.listed in
    record {
      numbers = λ crac_row same proofs proved.
          numbers_found inputs crac_row zones row.terms s c.requires.zones (ap (λ (r : RunRow). r.terms) (sym same))
          (state_stands inputs inputs.states s crac_row row same within s_is)
          proofs proof c.in_ok-spans.spans c.in_ok-spans.numbers proved (branch_below inputs c.requires.whole row of)
          (λ b at_number is. c.in_ok-spans.ensures.spans ∙ ap (row_spans_on zones row.terms) (given b at_number is))
          (λ b at_number is. c.in_ok-spans.ensures.row ∙ ap (row_proof_on zones row.terms) (given b at_number is));
      holds = λ crac_row same.
          hold_found inputs crac_row zones row.terms s c.requires.zones (ap (λ (r : RunRow). r.terms) (sym same)) (state_stands inputs inputs.states s crac_row row same within s_is)
          c.in_ok-spans.spans c.in_ok-spans.ensures.holds;
      right = λ crac_row same.
          right_found inputs crac_row zones row.terms s c.requires.zones (ap (λ (r : RunRow). r.terms) (sym same)) (state_stands inputs inputs.states s crac_row row same within s_is)
          c.in_ok-spans.numbers c.in_ok-spans.ensures.right;
    }
