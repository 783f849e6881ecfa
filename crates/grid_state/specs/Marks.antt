-- Words of private contracts, which nobody need believe: marks that are added to others, and nodes that they leave stranded.
use Rattle.std.specs.Prelude.{◌≡◌, ℕ, ◌<◌, Bool, false, not, ◌&&◌, ◌||◌, List, length, slice_index_or, Option, position}
use Rattle.std.specs.List.{enumerate_from}
use Rattle.fb_types.specs.declared.grid.Node.{Node}
use Rattle.grid_state.specs.GridState.{GridState, class_at, is_live}
use Rattle.grid_state.specs.Split.{is_nonzero, injection_of}

pub record MarksMore (old new : List Bool) (test : ℕ → Bool) : Type 0 where
  pub size : length new ≡ length old
  pub each : (i : ℕ) → slice_index_or new i false ≡ (slice_index_or old i false || test i)

-- whether a node, given with its number, is stranded, where the nodes with a key weight are marked
abbrev pub is_stranded_marked : GridState → List Bool → ℕ × Node → Bool
is_stranded_marked s keyed p = (is_nonzero (injection_of p.1) || slice_index_or keyed p.0 false) && not (is_live s (class_at s p.0))

abbrev pub first_marked : GridState → List Bool → List Node → Option ℕ
first_marked s keyed nodes = position (is_stranded_marked s keyed) (enumerate_from 0 nodes)

-- none of the first k nodes is stranded
pub record NoneBefore (s : GridState) (keyed : List Bool) (nodes : List Node) (k : ℕ) : Type 0 where
  pub none : (i : ℕ) (d : ℕ × Node) → i < k → is_stranded_marked s keyed (slice_index_or (enumerate_from 0 nodes) i d) ≡ false
