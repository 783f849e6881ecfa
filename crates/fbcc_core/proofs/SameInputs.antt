-- Settings are what they say, and inputs are their documents.
use Rattle.std.proofs.Common.{◌≡◌, ◌∙◌, ℕ, ℤ, List, [], ◌∷◌, refl, sym, ap, subst}
use Rattle.std.proofs.Math.Dec.{T_prop}
use Rattle.std.proofs.lemmas.Option.{same_Some}
use Rattle.std.specs.Prelude.{Option, Some, ◌≤ℤ◌}
use Rattle.std.specs.List.{AllZip}
use Rattle.jiff_core.specs.Timestamp.{IsTimestampNanos}
use Rattle.jiff_core.specs.declared.timestamp.Timestamp.{Timestamp}
use Rattle.fb_types.specs.declared.crac.Crac.{Crac}
use Rattle.fb_types.specs.declared.grid.Grid.{Grid}
use Rattle.grid_state.specs.GridState.{GridState}
use Rattle.grid_state.specs.Split.{slack_node_of}
use Rattle.grid_state.specs.StateLaws.{state_unique}
use Rattle.grid_state.specs.States.{IsStateOf}
use Rattle.run_settings.specs.Settings.{Said}
use Rattle.run_settings.specs.Views.{said}
use Rattle.run_settings.specs.declared.model.Settings.{Settings}
use Rattle.fb_certificate.specs.CracRows.{outages_of, out_by_state}
use Rattle.fb_certificate.specs.declared.types.Inputs.{Inputs}
use Rattle.fbcc_core.specs.Commands.{AreInputs}
use Rattle.fbcc_core.specs.declared.documents.RunDocuments.{RunDocuments}

-- ---- Settings

not_above_prop : (a b : ℤ) → IsProp (a ≤ℤ b)
not_above_prop a b = λ x y k. record { le = T_prop _ x.le y.le k }

nanos_prop : (n : ℤ) → IsProp (IsTimestampNanos n)
nanos_prop n = λ p q k. (not_above_prop _ n p.0 q.0 k, not_above_prop n _ p.1 q.1 k)

IsMoment : Timestamp → ℤ → Type 0
IsMoment t n = (r : IsTimestampNanos n) → t ≡ record { nanosecond = n; in_range = r }

moment_as : (t : Timestamp) (n : ℤ) → t.nanosecond ≡ n → IsMoment t n
unfolding IsMoment
moment_as t n e = subst (λ (m : ℤ). IsMoment t m) e (λ r k. record { nanosecond = t.nanosecond; in_range = nanos_prop t.nanosecond t.in_range r k })

moment_same : (t u : Timestamp) → t.nanosecond ≡ u.nanosecond → t ≡ u
unfolding IsMoment
moment_same t u e = moment_as t u.nanosecond e u.in_range

pub settings_same : (s t : Settings) → said s ≡ said t → s ≡ t
settings_same s t e = λ k. record {
  moment = moment_same s.moment t.moment (ap (λ (w : Said). w.moment) e) k;
  zones = ap (λ (w : Said). w.zones) e k;
  ramr = ap (λ (w : Said). w.ramr) e k;
  threshold = ap (λ (w : Said). w.threshold) e k;
  slack = ap (λ (w : Said). w.slack) e k;
}

-- ---- Inputs

states_same : (grid : Grid) (slack : ℕ) (out : List (List ℕ)) (ss ts : List GridState) → AllZip (IsStateOf grid slack) out ss → AllZip (IsStateOf grid slack) out ts → ss ≡ ts
states_same grid slack [] [] [] p q = refl
states_same grid slack [] [] (t ∷ ts) p q = absurd q
states_same grid slack [] (s ∷ ss) ts p q = absurd p
states_same grid slack (o ∷ out) [] ts p q = absurd p
states_same grid slack (o ∷ out) (s ∷ ss) [] p q = absurd q
states_same grid slack (o ∷ out) (s ∷ ss) (t ∷ ts) p q =
    λ k. state_unique grid slack o s t p.0 q.0 k ∷ states_same grid slack out ss ts p.1 q.1 k

module _ (d : RunDocuments) (i j : Inputs) (p : AreInputs d i) (q : AreInputs d j) where
  grid_is : i.grid ≡ j.grid
  grid_is = p.grid_is ∙ sym q.grid_is

  crac_is : i.crac ≡ j.crac
  crac_is = p.crac_is ∙ sym q.crac_is

  settings_is : i.settings ≡ j.settings
  settings_is = p.settings_are ∙ sym q.settings_are

  outages_is : i.outages ≡ j.outages
  outages_is = p.whole.outages ∙ ap outages_of crac_is ∙ sym q.whole.outages

  slack_is : p.whole.slack ≡ q.whole.slack
  slack_is = same_Some p.whole.slack q.whole.slack
      (sym p.whole.slack_node ∙ (λ k. slack_node_of (grid_is k).nodes (settings_is k).slack) ∙ q.whole.slack_node)

  -- the states of the one are those of the other
  carried_states : AllZip (IsStateOf j.grid q.whole.slack) (out_by_state j.crac j.outages) i.states
  carried_states =
      subst (λ (g : Grid). AllZip (IsStateOf g q.whole.slack) (out_by_state j.crac j.outages) i.states) grid_is
      (subst (λ (n : ℕ). AllZip (IsStateOf i.grid n) (out_by_state j.crac j.outages) i.states) slack_is
      (subst (λ (o : List ℕ). AllZip (IsStateOf i.grid p.whole.slack) (out_by_state j.crac o) i.states) outages_is
      (subst (λ (c : Crac). AllZip (IsStateOf i.grid p.whole.slack) (out_by_state c i.outages) i.states) crac_is p.whole.states.of_grid)))

  states_is : i.states ≡ j.states
  states_is = states_same j.grid q.whole.slack (out_by_state j.crac j.outages) i.states j.states carried_states q.whole.states.of_grid

  pub inputs_same : i ≡ j
  inputs_same = λ k. record {
    grid = grid_is k;
    crac = crac_is k;
    settings = settings_is k;
    keys = (p.keys_are ∙ sym q.keys_are) k;
    reductions = (p.reductions_are ∙ sym q.reductions_are) k;
    states = states_is k;
    outages = outages_is k;
  }
