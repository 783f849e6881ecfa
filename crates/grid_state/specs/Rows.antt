-- The rows of the classes: for each class, the carrying branches that join it to another class, in the order of the branches.
use Rattle.std.specs.Prelude.{◌≡◌, ℕ, ◌<◌, Bool, false, not, ◌&&◌, ◌==◌, if◌then◌else◌, List, [], length, slice_index, slice_index_or, Option, Some, None}
use Rattle.std.specs.List.{filter_map}
use Rattle.fb_types.specs.declared.grid.Branch.{Branch}
use Rattle.grid_state.specs.declared.types.Edge.{Edge}
use Rattle.grid_state.specs.declared.links.Link.{Link}
use Rattle.grid_state.specs.Links.{is_line, is_chosen}

-- whether a link joins a live class to another
abbrev pub is_crossing : List Bool → Link → Bool
is_crossing live link = not (link.one == link.other) && (slice_index_or live link.one false && slice_index_or live link.other false)

-- what a link that crosses is to the class i: the class at its other end, if it has i at one end
abbrev pub end_seen : ℕ → Link → Option Edge
end_seen i link =
    if link.one == i then Some (record { to = link.other; b = link.b }) else (if link.other == i then Some (record { to = link.one; b = link.b }) else None)

abbrev pub edge_seen : List Bool → ℕ → Link → Option Edge
edge_seen live i link = if is_crossing live link then end_seen i link else None

-- the row of the class i
abbrev pub edges_at : List Bool → ℕ → List Link → List Edge
edges_at live i links = filter_map (edge_seen live i) links

pub record AreRows (live : List Bool) (links : List Link) (rows : List (List Edge)) : Type 0 where
  pub each_class : length rows ≡ length live
  pub row : (i : ℕ) → i < length live → slice_index_or rows i [] ≡ edges_at live i links

-- whether a branch, given with its number, carries: it is a line or a transformer in operation outside the outage, and its
-- ends are of live classes
abbrev pub carries_in : (ℕ → Bool) → List ℕ → List Bool → ℕ × Branch → Bool
carries_in out class_of live p =
    is_chosen is_line out p && (slice_index_or live (slice_index class_of p.1.from) false && slice_index_or live (slice_index class_of p.1.to) false)
