-- Why a run has no inputs. States go by their numbers in a list of the branches that are out in each: the first is the base state,
-- and behind it come the states after each contingency that an element names, in the order of the contingencies.
use Rattle.std.specs.Prelude.{◌≡◌, ℕ, ◌<◌, List, [], Option, Some, None, slice_get}
use Rattle.std.specs.Option.{option_map_or}
use Rattle.fb_types.specs.declared.crac.Crac.{Crac}
use Rattle.fb_types.specs.declared.grid.Grid.{Grid}
use Rattle.fb_types.specs.declared.keys.Column.{Column}
use Rattle.grid_state.specs.GridState.{GridState}
use Rattle.grid_state.specs.Split.{slack_node_of, IsSplit}
use Rattle.grid_state.specs.States.{IsStateOf}
use Rattle.grid_laplacian.specs.Ranges.{IsInRange}
use Rattle.fb_certificate.specs.CracRows.{outages_of, out_by_state}
use Rattle.run_inputs.specs.declared.fault.InputsError.{InputsError}
use Rattle.run_inputs.specs.declared.fault.InputsError.TheVariants.{NoSlack, SplitGrid, RangeExceeded, Memory}

-- the state is the first that is split, and the node is its first stranded node
pub record IsFirstSplit (grid : Grid) (slack : ℕ) (columns : List Column) (out : List (List ℕ)) (state node : ℕ) : Type 0 where
  pub outage : List ℕ
  pub here : slice_get out state ≡ Some outage
  pub split : IsSplit grid slack outage columns node
  pub before : (k : ℕ) (earlier : List ℕ) → k < state → slice_get out k ≡ Some earlier → (n : ℕ) → ¬ IsSplit grid slack earlier columns n

-- the code of the node at a place, counted from 0; it is empty past the end
abbrev pub code_at : Grid → ℕ → List ℕ
code_at grid node = option_map_or (λ n. n.code) (slice_get grid.nodes node) []

-- the state is the first that is split, and this is the code of its first stranded node
pub record IsFirstStranded (grid : Grid) (slack : ℕ) (columns : List Column) (out : List (List ℕ)) (state : ℕ) (code : List ℕ) : Type 0 where
  pub node : ℕ
  pub split : IsFirstSplit grid slack columns out state node
  pub code_is : code ≡ code_at grid node

-- no state is split, and the state is the first outside the range rule
pub record IsFirstOutOfRange (grid : Grid) (slack : ℕ) (columns : List Column) (out : List (List ℕ)) (state : ℕ) : Type 0 where
  pub unsplit : (k : ℕ) (outage : List ℕ) → slice_get out k ≡ Some outage → (n : ℕ) → ¬ IsSplit grid slack outage columns n
  pub outage : List ℕ
  pub here : slice_get out state ≡ Some outage
  pub s : GridState
  pub of_grid : IsStateOf grid slack outage s
  pub outside : ¬ IsInRange grid s
  pub before : (k : ℕ) (earlier : List ℕ) (t : GridState) → k < state → slice_get out k ≡ Some earlier → IsStateOf grid slack earlier t → IsInRange grid t

-- the branches that are out in each state of a CRAC
abbrev pub out_of : Crac → List (List ℕ)
out_of crac = out_by_state crac (outages_of crac)

-- Why there are no inputs: there is no slack node; or a state is split; or none is, and one is outside the range rule. Memory may run
-- out at any time.
abbrev pub IsRefused : Grid → Crac → Option ℕ → List Column → InputsError → Type 0
IsRefused grid crac named columns NoSlack = slack_node_of grid.nodes named ≡ None
IsRefused grid crac named columns (SplitGrid state code) =
    (slack : ℕ) × (slack_node_of grid.nodes named ≡ Some slack) × IsFirstStranded grid slack columns (out_of crac) state code
IsRefused grid crac named columns (RangeExceeded state) =
    (slack : ℕ) × (slack_node_of grid.nodes named ≡ Some slack) × IsFirstOutOfRange grid slack columns (out_of crac) state
IsRefused grid crac named columns (Memory e) = Unit {0}

-- want of memory
abbrev pub IsMemory : InputsError → Type 0
IsMemory NoSlack = ⊥
IsMemory (SplitGrid state code) = ⊥
IsMemory (RangeExceeded state) = ⊥
IsMemory (Memory e) = Unit {0}
