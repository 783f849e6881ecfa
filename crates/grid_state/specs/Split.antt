-- Slack nodes, and the nodes that a state leaves stranded.
use Rattle.std.specs.Prelude.{◌≡◌, ℕ, ◌<◌, Bool, false, not, ◌&&◌, ◌||◌, ◌==◌, ℤ, ◌-ℤ◌, neg_ℤ, ⊤, List, length, slice_index_or, Option, Some, None, position, All, unsigned_abs}
use Rattle.std.specs.List.{list_any, enumerate_from}
use Rattle.fb_types.specs.declared.grid.Node.{Node}
use Rattle.fb_types.specs.declared.grid.Grid.{Grid}
use Rattle.fb_types.specs.declared.keys.Weight.{Weight}
use Rattle.fb_types.specs.declared.keys.Block.{Block}
use Rattle.fb_types.specs.declared.keys.Column.{Column}
use Rattle.grid_state.specs.declared.state_fault.StateFault.{StateFault}
use Rattle.grid_state.specs.declared.state_fault.StateFault.TheVariants.{SplitGrid, Memory}
use Rattle.grid_state.specs.GridState.{GridState, class_at, is_live}
use Rattle.grid_state.specs.States.{IsStateOf}

-- ---- The slack

-- the node that is named, or else the first node of type 3 (U and angle)
abbrev pub slack_node_of : List Node → Option ℕ → Option ℕ
slack_node_of nodes (Some node) = Some node
slack_node_of nodes None = position (λ node. node.kind == 3) nodes

-- ---- Loads and keys

abbrev pub is_nonzero : ℤ → Bool
is_nonzero z = not (unsigned_abs z == 0)

-- what a node feeds into the grid, in watts
abbrev pub injection_of : Node → ℤ
injection_of node = neg_ℤ node.load -ℤ node.generation

-- whether a weight other than 0 stands at the node
abbrev pub is_weighted : List Weight → ℕ → Bool
is_weighted weights node = list_any (λ w. (w.node == node) && is_nonzero w.weight) weights

-- the same, in some block
abbrev pub is_keyed_in : List Block → ℕ → Bool
is_keyed_in blocks node = list_any (λ block. is_weighted block.weights node) blocks

-- and in some block of some column
abbrev pub is_keyed : List Column → ℕ → Bool
is_keyed columns node = list_any (λ column. is_keyed_in column.blocks node) columns

-- whether a node, given with its number, feeds something in or has a key weight
abbrev pub is_loaded : List Column → ℕ × Node → Bool
is_loaded columns p = is_nonzero (injection_of p.1) || is_keyed columns p.0

-- the key weights stand at nodes of the grid
abbrev pub AreKeysOf : ℕ → List Column → Type 0
AreKeysOf nodes columns = All (λ column. All (λ block. All (λ w. w.node < nodes) block.weights) column.blocks) columns

-- marks of the nodes, of so many, that have a key weight
pub record AreKeyMarks (nodes : ℕ) (columns : List Column) (marks : List Bool) : Type 0 where
  pub each_node : length marks ≡ nodes
  pub marked : (node : ℕ) → slice_index_or marks node false ≡ is_keyed columns node

-- ---- Split states

-- whether a node is loaded, and of a class that is not live
abbrev pub is_stranded : GridState → List Column → ℕ × Node → Bool
is_stranded s columns p = is_loaded columns p && not (is_live s (class_at s p.0))

abbrev pub first_stranded_node : GridState → List Column → List Node → Option ℕ
first_stranded_node s columns nodes = position (is_stranded s columns) (enumerate_from 0 nodes)

-- the state of the grid is split, and this is its first stranded node
pub record IsSplit (grid : Grid) (slack : ℕ) (outage : List ℕ) (columns : List Column) (node : ℕ) : Type 0 where
  pub state : GridState
  pub of_grid : IsStateOf grid slack outage state
  pub first : first_stranded_node state columns grid.nodes ≡ Some node

-- why there is no state: it is split, or memory is wanting
abbrev pub IsCaused : Grid → ℕ → List ℕ → List Column → StateFault → Type 0
IsCaused grid slack outage columns (SplitGrid node) = IsSplit grid slack outage columns node
IsCaused grid slack outage columns (Memory e) = ⊤
