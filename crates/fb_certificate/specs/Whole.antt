-- What the inputs of a domain are to be: their parts fit each other, and all numbers are in their ranges.
use Rattle.std.specs.Prelude.{◌≡◌, ℕ, ◌<◌, ◌≤◌, ◌^◌, pos, ◌≤ℤ◌, List, length, map, All, Some, None, IfSome}
use Rattle.std.specs.List.{AllZip}
use Rattle.fb_types.specs.declared.crac.Element.{Element}
use Rattle.fb_types.specs.declared.crac.Crac.{Crac}
use Rattle.fb_types.specs.declared.grid.Grid.{Grid}
use Rattle.fb_types.specs.declared.keys.Column.{Column}
use Rattle.grid_state.specs.GridState.{GridState}
use Rattle.grid_state.specs.Split.{slack_node_of, first_stranded_node}
use Rattle.grid_state.specs.States.{IsStateOf}
use Rattle.grid_laplacian.specs.Ranges.{IsInRange}
use Rattle.run_settings.specs.Laws.{AreSettings, core_bounds}
use Rattle.run_settings.specs.ReductionLaws.{AreReductionsOf}
use Rattle.run_settings.specs.Views.{said}
use Rattle.run_settings.specs.declared.model.Settings.{Settings}
use Rattle.glsk_keys.specs.Laws.{AreKeys}
use Rattle.glsk_keys.specs.declared.model.Keys.{Keys}
use Rattle.cnec_rows.specs.declared.types.RowZones.{RowZones}
use Rattle.fb_certificate.specs.CracRows.{outages_of, out_by_state}
use Rattle.fb_certificate.specs.declared.types.Inputs.{Inputs}

-- an element: its branch is one of the grid and its contingency one of the list; the margin is from 0 to 10^11 W, and each limit
-- from 1 to 10^11 W
pub record IsElement (branches contingencies : ℕ) (element : Element) : Type 0 where
  pub branch : element.branch < branches
  pub contingency : IfSome element.contingency (λ k. k < contingencies)
  pub margin : (pos 0 ≤ℤ element.margin) × (element.margin ≤ℤ pos (10 ^ 11))
  pub direct : IfSome element.direct (λ limit. (pos 1 ≤ℤ limit) × (limit ≤ℤ pos (10 ^ 11)))
  pub opposite : IfSome element.opposite (λ limit. (pos 1 ≤ℤ limit) × (limit ≤ℤ pos (10 ^ 11)))

-- at most 20,000 elements and 512 contingencies, over a grid of so many branches
pub record IsCracOver (branches : ℕ) (crac : Crac) : Type 0 where
  pub few_contingencies : length crac.contingencies ≤ 512
  pub outages : All (λ c. All (λ k. k < branches) c.branches) crac.contingencies
  pub few_elements : length crac.elements ≤ 20000
  pub elements : All (IsElement branches (length crac.contingencies)) crac.elements

-- the states are those of the base grid and after each outage, seen from a slack node; none is split, and each is in range
pub record AreStates (grid : Grid) (slack : ℕ) (columns : List Column) (out : List (List ℕ)) (states : List GridState) : Type 0 where
  pub of_grid : AllZip (IsStateOf grid slack) out states
  pub unsplit : All (λ s. first_stranded_node s columns grid.nodes ≡ None) states
  pub in_range : All (IsInRange grid) states

pub record IsWhole (inputs : Inputs) : Type 0 where
  pub crac : IsCracOver (length inputs.grid.branches) inputs.crac
  pub settings : AreSettings inputs.grid.nodes (said inputs.settings)
  pub keys : AreKeys inputs.grid.nodes inputs.settings.zones inputs.keys
  pub reductions : AreReductionsOf inputs.crac.elements inputs.reductions
  pub outages : inputs.outages ≡ outages_of inputs.crac
  pub slack : ℕ
  pub slack_node : slack_node_of inputs.grid.nodes inputs.settings.slack ≡ Some slack
  pub states : AreStates inputs.grid slack inputs.keys.columns (out_by_state inputs.crac inputs.outages) inputs.states

-- ---- The zones as rows see them

abbrev pub row_zones : Settings → Keys → RowZones
row_zones settings keys = record {
  positions = keys.positions;
  core = map (λ zone. zone.core) settings.zones;
  bounds = core_bounds settings.zones;
}
