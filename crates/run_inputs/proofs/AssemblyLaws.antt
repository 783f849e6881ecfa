-- What the parts of a run owe to each other, and why there are no inputs.
use Rattle.std.proofs.Common.{◌≡◌, ℕ, ◌<◌, ◌≤◌, List, Some, length, All, get_or, slice_get, arith, sym, ap, subst}
use Rattle.std.specs.Option.{IsSomeAnd}
use Rattle.std.proofs.lemmas.List.{length-map}
use Rattle.std.proofs.lemmas.List.Elements.{All-weaker}
use Rattle.std.proofs.lemmas.Option.{MatchOption-at_some, slice_get-get_or}
use Rattle.std.proofs.lemmas.Slice.Zip.{AllZip-long, AllZip-right}
use Rattle.fb_types.specs.declared.crac.Crac.{Crac}
use Rattle.fb_types.specs.declared.grid.Grid.{Grid}
use Rattle.fb_types.specs.declared.grid.Node.{Node}
use Rattle.fb_types.specs.declared.keys.Block.{Block}
use Rattle.fb_types.specs.declared.keys.Column.{Column}
use Rattle.fb_types.specs.declared.keys.Weight.{Weight}
use Rattle.grid_state.specs.GridState.{GridState}
use Rattle.grid_state.specs.Split.{AreKeysOf}
use Rattle.grid_state.specs.StateLaws.{state_unique}
use Rattle.grid_state.specs.States.{IsStateOf}
use Rattle.grid_laplacian.specs.Ranges.{IsOfGrid, IsInRange}
use Rattle.glsk_keys.specs.Laws.{AreKeys, IsBlock, IsWeight}
use Rattle.glsk_keys.specs.Zones.{home_of, homes_of}
use Rattle.glsk_keys.specs.declared.model.Keys.{Keys}
use Rattle.run_settings.specs.declared.model.Zone.{Zone}
use Rattle.fb_certificate.specs.CracRows.{branches_out, outages_of, out_by_state}
use Rattle.fb_certificate.specs.Whole.{AreStates}
use Rattle.run_inputs.specs.Building.{AreUnsplit, IsFirstOutside}
use Rattle.run_inputs.proofs.MarkLaws.{outages_below, outages_few}
use Rattle.run_inputs.specs.RefusalLaws.{some_and, state_at, none_split}
use Rattle.run_inputs.specs.Refusals.{IsFirstOutOfRange}

-- ---- the nodes that keys name are there
weights_below : (nodes : List Node) (zones : List Zone) (zone : ℕ) (b : Block) → IsBlock (homes_of zones nodes) zone b → All (λ w. w.node < length nodes) b.weights
weights_below nodes zones zone b is =
    All-weaker (IsWeight (homes_of zones nodes) zone) (λ (w : Weight). w.node < length nodes) (λ w at. let size = length-map nodes (home_of zones) in let below = at.node in omega arith) b.weights is.weights

pub keys_below : (nodes : List Node) (zones : List Zone) (keys : Keys) → AreKeys nodes zones keys → AreKeysOf (length nodes) keys.columns
keys_below nodes zones keys are k d lt =
    let size = are.columns in
    let column = are.each k d (omega arith) in
    All-weaker (IsBlock (homes_of zones nodes) k) (λ (b : Block). All (λ w. w.node < length nodes) b.weights) (weights_below nodes zones k) (get_or keys.columns k d).blocks column.blocks

-- ---- the outages and their states
pub outages_within : (crac : Crac) (outages : List ℕ) → outages ≡ outages_of crac → All (λ k. k < length crac.contingencies) outages
outages_within crac outages e = subst (All (λ (k : ℕ). k < length crac.contingencies)) (sym e) (outages_below crac)

pub outages_at_most : (crac : Crac) (outages : List ℕ) → outages ≡ outages_of crac → length crac.contingencies ≤ 512 → length outages ≤ 512
outages_at_most crac outages e few = let at_most = outages_few crac in let size = ap length e in omega arith

pub states_at_most : (grid : Grid) (slack : ℕ) (columns : List Column) (crac : Crac) (outages : List ℕ) (states : List GridState) → AreUnsplit grid slack columns (out_by_state crac outages) states → length outages ≤ 512
    → length states ≤ 513
states_at_most grid slack columns crac outages states are few =
    let long = AllZip-long (IsStateOf grid slack) (out_by_state crac outages) states are.of_grid in
    let size = length-map outages (branches_out crac.contingencies) in
    omega arith

-- ---- states of a list of outages
module _ (grid : Grid) (slack : ℕ) (columns : List Column) (out : List (List ℕ)) (states : List GridState) (are : AreUnsplit grid slack columns out states) where
  outage_at : (k : ℕ) (s : GridState) → slice_get states k ≡ Some s → (outage : List ℕ) × (slice_get out k ≡ Some outage) × IsStateOf grid slack outage s
  outage_at k s e =
      some_and (slice_get out k) (λ (outage : List ℕ). IsStateOf grid slack outage s)
      (MatchOption-at_some (Unit {0}) (λ t. IsSomeAnd (slice_get out k) (λ outage. IsStateOf grid slack outage t)) s e (AllZip-right (IsStateOf grid slack) out states are.of_grid k))

  pub states_of_grid : All (IsOfGrid grid) states
  states_of_grid k d lt =
      let found = outage_at k (get_or states k d) (slice_get-get_or states k d lt) in
      record { slack_node = slack; outage = found.0; of_grid = found.2 }

  pub states_in_range : All (IsInRange grid) states → AreStates grid slack columns out states
  states_in_range all = record { of_grid = are.of_grid; unsplit = are.unsplit; in_range = all }

  pub first_out_of_range : (number : ℕ) → IsFirstOutside grid states number → IsFirstOutOfRange grid slack columns out number
  first_out_of_range number first =
      let found = outage_at number first.s first.here in
      record {
        unsplit = none_split grid slack columns out states are.of_grid are.unsplit;
        outage = found.0;
        here = found.1;
        s = first.s;
        of_grid = found.2;
        outside = first.outside;
        before = λ k earlier t lt e is.
            let at = state_at grid slack out states are.of_grid k earlier e in
            subst (IsInRange grid) (state_unique grid slack earlier at.0 t at.2 is) (first.before k at.0 lt at.1);
      }
