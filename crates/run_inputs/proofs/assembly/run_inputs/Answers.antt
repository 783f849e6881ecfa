use Rattle.std.proofs.Common.{◌≡◌, ◌∙◌, ℕ, List, All, sym, subst}
use Rattle.grid_state.specs.GridState.{GridState}
use Rattle.grid_laplacian.specs.Ranges.{IsOfGrid, IsInRange}
use Rattle.fb_certificate.specs.CracRows.{outages_of, out_by_state}
use Rattle.run_inputs.specs.Building.{AreUnsplit, IsFirstOutside}
use Rattle.run_inputs.specs.Refusals.{IsFirstOutOfRange}
use Rattle.run_inputs.proofs.AssemblyLaws.{keys_below, outages_within, outages_at_most, states_at_most, states_of_grid, states_in_range, first_out_of_range}
use Rattle.run_inputs.proofs.assembly.run_inputs.Goals as goal

pub states-requires-clause-outages : goal.states-requires-clause-outages
states-requires-clause-outages c = outages_within c.args.crac c.as_slice.result.now (c.as_slice.ensures.items ∙ c.in_ok-outages.ensures.outages)

pub states-requires-clause-few : goal.states-requires-clause-few
states-requires-clause-few c = outages_at_most c.args.crac c.as_slice.result.now (c.as_slice.ensures.items ∙ c.in_ok-outages.ensures.outages) c.requires.crac.few_contingencies

pub states-requires-clause-keys : goal.states-requires-clause-keys
states-requires-clause-keys c = keys_below c.args.grid.nodes c.args.settings.zones c.args.keys c.requires.keys

pub first_out_of_range-requires-clause-few : goal.first_out_of_range-requires-clause-few
first_out_of_range-requires-clause-few c =
    rw c.as_slice-2.ensures.items
    (states_at_most c.args.grid c.in-Some.slack c.args.keys.columns c.args.crac c.as_slice.result.now c.in_ok-states.states c.in_ok-states.ensures.states
    (outages_at_most c.args.crac c.as_slice.result.now (c.as_slice.ensures.items ∙ c.in_ok-outages.ensures.outages) c.requires.crac.few_contingencies))

pub first_out_of_range-requires-clause-of_grid : goal.first_out_of_range-requires-clause-of_grid
first_out_of_range-requires-clause-of_grid c =
    subst (All (IsOfGrid c.args.grid)) (sym c.as_slice-2.ensures.items)
    (states_of_grid c.args.grid c.in-Some.slack c.args.keys.columns (out_by_state c.args.crac c.as_slice.result.now) c.in_ok-states.states c.in_ok-states.ensures.states)

pub returns-in-Some-first_out_of_range-clause-cause : goal.returns-in-Some-first_out_of_range-clause-cause
returns-in-Some-first_out_of_range-clause-cause c =
    let outages : c.as_slice.result.now ≡ outages_of c.args.crac = c.as_slice.ensures.items ∙ c.in_ok-outages.ensures.outages in
    let first : IsFirstOutside c.args.grid c.in_ok-states.states c.in-Some-first_out_of_range.state =
    subst (λ (states : List GridState). IsFirstOutside c.args.grid states c.in-Some-first_out_of_range.state) c.as_slice-2.ensures.items c.in-Some-first_out_of_range.ensures in (
      c.in-Some.slack,
      sym c.in-Some.ensures.node,
      subst (λ (ks : List ℕ). IsFirstOutOfRange c.args.grid c.in-Some.slack c.args.keys.columns (out_by_state c.args.crac ks) c.in-Some-first_out_of_range.state) outages
          (first_out_of_range c.args.grid c.in-Some.slack c.args.keys.columns (out_by_state c.args.crac c.as_slice.result.now) c.in_ok-states.states c.in_ok-states.ensures.states c.in-Some-first_out_of_range.state first),
    )

pub returns-clause-whole : goal.returns-clause-whole
returns-clause-whole c =
    let in_range : All (IsInRange c.args.grid) c.in_ok-states.states = subst (All (IsInRange c.args.grid)) c.as_slice-2.ensures.items c.in_default-first_out_of_range.ensures in
    record {
      crac = c.requires.crac;
      settings = c.requires.settings;
      keys = c.requires.keys;
      reductions = c.requires.reductions;
      outages = c.in_ok-outages.ensures.outages;
      slack = c.in-Some.slack;
      slack_node = sym c.in-Some.ensures.node;
      states = states_in_range c.args.grid c.in-Some.slack c.args.keys.columns (out_by_state c.args.crac c.in_ok-outages.outages) c.in_ok-states.states
          (subst (λ (ks : List ℕ). AreUnsplit c.args.grid c.in-Some.slack c.args.keys.columns (out_by_state c.args.crac ks) c.in_ok-states.states) c.as_slice.ensures.items c.in_ok-states.ensures.states) in_range;
    }
