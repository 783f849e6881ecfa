-- What a text names in a grid: a branch by its id, or a tie line by the ids of its two halves. Texts are bytes in UTF-8.
use Rattle.std.specs.Prelude.{ℕ, Bool, true, false, not, ◌==◌, ◌&&◌, ◌||◌, List, [], ◌∷◌, length, take, drop, slice_get, slice_index, Option, Some, None, if◌then◌else◌}
use Rattle.std.specs.Option.{option_map, option_map_or, option_or}
use Rattle.std.specs.Str.{chars, encode_utf8_all}
use Rattle.fb_types.specs.declared.grid.Node.{Node}
use Rattle.fb_types.specs.declared.grid.Branch.{Branch}
use Rattle.fb_types.specs.declared.grid.BranchKind.{BranchKind}
use Rattle.fb_types.specs.declared.grid.BranchKind.TheVariants.{Line, Transformer, Coupler}
use Rattle.name_tables.specs.Names.{value_at, numbered_from}
use Rattle.name_tables.specs.Padding.{padded_name}
use Rattle.name_tables.specs.Tables.{with_entries}
use Rattle.crac_model.specs.declared.names.Named.{Named}
use Rattle.crac_model.specs.declared.names.Halves.{Halves}
use Rattle.crac_model.specs.declared.names.GridNames.{GridNames}

-- ids with their places in a list, from 0; of equal ids the first counts
abbrev pub places_of : List (List ℕ) → List (List ℕ × ℕ)
places_of ids = with_entries [] (numbered_from 0 ids)

abbrev pub branch_ids : List Branch → List (List ℕ)
branch_ids [] = []
branch_ids (b ∷ bs) = b.id ∷ branch_ids bs

abbrev pub branch_places : List Branch → List (List ℕ × ℕ)
branch_places branches = places_of (branch_ids branches)

-- a grid, and the places of its branches by their ids
pub record NamedGrid : Type 0 where
  pub nodes : List Node
  pub branches : List Branch
  pub places : List (List ℕ × ℕ)

-- ---- tie lines

-- a text `A + B` of 41 characters: the ids A and B have 19 characters each
abbrev pub is_pair : List ℕ → Bool
is_pair cs = (length cs == 41) && (slice_index cs 19 == 32) && (slice_index cs 20 == 43) && (slice_index cs 21 == 32)

abbrev pub halves_of : List ℕ → Option Halves
halves_of cs = if is_pair cs then Some (record { first = encode_utf8_all (take 19 cs); second = encode_utf8_all (drop 22 cs) }) else None

-- the code letter of an X node is X
abbrev pub is_x_code : List ℕ → Bool
is_x_code [] = false
is_x_code (c ∷ cs) = c == 88

abbrev pub is_x_node : List Node → ℕ → Bool
is_x_node nodes place = option_map_or (λ n. is_x_code n.code) (slice_get nodes place) false

-- an X node at which the other half ends
abbrev pub is_joint : List Node → Branch → ℕ → Bool
is_joint nodes other place = is_x_node nodes place && ((place == other.from) || (place == other.to))

-- exactly one end of a half is an X node at which the other half ends
abbrev pub meets_once : List Node → Branch → Branch → Bool
meets_once nodes half other = if is_joint nodes other half.from then not (is_joint nodes other half.to) else is_joint nodes other half.to

abbrev pub is_coupler : BranchKind → Bool
is_coupler Line = false
is_coupler Transformer = false
is_coupler Coupler = true

-- Two different branches, not couplers, for which there is exactly one X node that is an end of both, and it is one end
-- alone of each.
abbrev pub is_tie : List Node → ℕ → Branch → ℕ → Branch → Bool
is_tie nodes first a second b = not (first == second) && not (is_coupler a.kind) && not (is_coupler b.kind) && meets_once nodes a b && meets_once nodes b a

-- the first half is measured, towards the X node
abbrev pub tie_between : List Node → ℕ → ℕ → Option Branch → Option Branch → Option Named
tie_between nodes first second None b = None
tie_between nodes first second (Some a) None = None
tie_between nodes first second (Some a) (Some b) =
    if is_tie nodes first a second b then Some (record { branch = first; other = Some second; turned = is_joint nodes b a.from }) else None

abbrev pub tie_at : NamedGrid → ℕ → ℕ → Option Named
tie_at grid first second = tie_between grid.nodes first second (slice_get grid.branches first) (slice_get grid.branches second)

abbrev pub tie_found : NamedGrid → Option ℕ → Option ℕ → Option Named
tie_found grid None second = None
tie_found grid (Some first) None = None
tie_found grid (Some first) (Some second) = tie_at grid first second

abbrev pub tie_of : NamedGrid → Option Halves → Option Named
tie_of grid None = None
tie_of grid (Some halves) = tie_found grid (value_at grid.places halves.first) (value_at grid.places halves.second)

abbrev pub tie_named : NamedGrid → List ℕ → Option Named
tie_named grid name = tie_of grid (halves_of (chars name))

-- ---- names

abbrev pub single : ℕ → Named
single place = record { branch = place; other = None; turned = false }

-- a branch's id, padded with blanks to 19 characters, or a tie line
unfoldable pub branch_named : NamedGrid → List ℕ → Option Named
branch_named grid name = option_or (option_map single (value_at grid.places (padded_name 19 name))) (tie_named grid name)

-- ---- what the code holds of a grid

abbrev pub grid_of : GridNames → NamedGrid
grid_of g = record { nodes = g.nodes.now; branches = g.branches.now; places = g.places.now }
