-- Which nodes are of which zone. A zone goes by its place in the settings, a node by its place in the grid, both from 0.
use Rattle.std.specs.Prelude.{ℕ, ◌==◌, Bool, false, List, Option, Some, None, map, slice_get}
use Rattle.std.specs.List.{list_any, range_with_len, position_from}
use Rattle.std.specs.Option.{option_map_or}
use Rattle.std.specs.Str.{bytes_eq}
use Rattle.name_tables.specs.Names.{is_among}
use Rattle.fb_types.specs.declared.grid.Node.{Node}
use Rattle.run_settings.specs.declared.model.Zone.{Zone}

-- the zone with this id
abbrev pub has_id : List ℕ → Zone → Bool
has_id id z = bytes_eq z.id id

abbrev pub zone_named : List Zone → List ℕ → Option ℕ
zone_named zones id = position_from (has_id id) 0 zones

-- the zone of the nodes in blocks of this two-letter code: the first one that lists it
abbrev pub lists : List ℕ → Zone → Bool
lists code z = is_among z.codes code

abbrev pub zone_of_code : List Zone → List ℕ → Option ℕ
zone_of_code zones code = position_from (lists code) 0 zones

-- the zone of each node, or none
abbrev pub home_of : List Zone → Node → Option ℕ
home_of zones node = zone_of_code zones node.zone

abbrev pub homes_of : List Zone → List Node → List (Option ℕ)
homes_of zones nodes = map (home_of zones) nodes

abbrev pub is_zone : ℕ → Option ℕ → Bool
is_zone zone None = false
is_zone zone (Some home) = home == zone

-- for each node, whether it is of the zone
abbrev pub members_of : ℕ → List (Option ℕ) → List Bool
members_of zone homes = map (is_zone zone) homes

-- whether the node is of the zone
abbrev pub is_member : ℕ → List (Option ℕ) → ℕ → Bool
is_member zone homes node = option_map_or (is_zone zone) (slice_get homes node) false

-- for each of so many nodes, whether it is listed
abbrev pub is_listed : List ℕ → ℕ → Bool
is_listed listed node = list_any (λ place. place == node) listed

abbrev pub listed_of : ℕ → List ℕ → List Bool
listed_of count listed = map (is_listed listed) (range_with_len 0 count)
