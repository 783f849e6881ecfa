-- Words of private contracts: states while they are made. Nobody need believe them: they are tied to the inputs and their refusals by
-- the contract of the call.
use Rattle.std.specs.Prelude.{◌≡◌, ◌⊎◌, ℕ, ◌<◌, List, [], Some, None, All, slice_get, slice_index_or}
use Rattle.std.specs.List.{AllZip}
use Rattle.fb_types.specs.declared.crac.Crac.{Crac}
use Rattle.fb_types.specs.declared.grid.Grid.{Grid}
use Rattle.fb_types.specs.declared.keys.Column.{Column}
use Rattle.grid_state.specs.GridState.{GridState}
use Rattle.grid_state.specs.Split.{first_stranded_node}
use Rattle.grid_state.specs.States.{IsStateOf}
use Rattle.grid_state.specs.declared.state_fault.StateFault.{StateFault}
use Rattle.grid_state.specs.declared.state_fault.StateFault.TheVariants as faults
use Rattle.grid_laplacian.specs.Ranges.{IsInRange}
use Rattle.fb_certificate.specs.CracRows.{out_by_state}
use Rattle.run_inputs.specs.Refusals.{code_at, IsFirstStranded, IsMemory}
use Rattle.run_inputs.specs.declared.fault.InputsError.{InputsError}
use Rattle.run_inputs.specs.declared.fault.InputsError.TheVariants.{NoSlack, SplitGrid, RangeExceeded, Memory}

-- the branches that are out in the state of this number
abbrev pub out_in : Crac → List ℕ → ℕ → List ℕ
out_in crac outages number = slice_index_or (out_by_state crac outages) number []

-- the states are those of the outages, and none is split
pub record AreUnsplit (grid : Grid) (slack : ℕ) (columns : List Column) (out : List (List ℕ)) (states : List GridState) : Type 0 where
  pub of_grid : AllZip (IsStateOf grid slack) out states
  pub unsplit : All (λ s. first_stranded_node s columns grid.nodes ≡ None) states

-- the refusal of the run that tells why the state of this number is refused, unless memory ran out
abbrev pub IsToldAt : Grid → ℕ → StateFault → InputsError → Type 0
IsToldAt grid number (faults.SplitGrid node) error = (error ≡ SplitGrid number (code_at grid node)) ⊎ IsMemory error
IsToldAt grid number (faults.Memory e) error = error ≡ Memory e

-- a state is split, or memory is wanting
abbrev pub IsSplitAt : Grid → ℕ → List Column → List (List ℕ) → InputsError → Type 0
IsSplitAt grid slack columns out NoSlack = ⊥
IsSplitAt grid slack columns out (SplitGrid state code) = IsFirstStranded grid slack columns out state code
IsSplitAt grid slack columns out (RangeExceeded state) = ⊥
IsSplitAt grid slack columns out (Memory e) = Unit {0}

-- the state of this number is the first outside the range rule
pub record IsFirstOutside (grid : Grid) (states : List GridState) (number : ℕ) : Type 0 where
  pub s : GridState
  pub here : slice_get states number ≡ Some s
  pub outside : ¬ IsInRange grid s
  pub before : (k : ℕ) (t : GridState) → k < number → slice_get states k ≡ Some t → IsInRange grid t
