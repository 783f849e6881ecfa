-- The keys of all zones, after all series.
use Rattle.std.specs.Prelude.{ℕ, ◌+◌, ℤ, pos, Bool, not, ◌&&◌, List, [], ◌∷◌, length, map, Option, Some, None, Ok, codes, int_le, ⊤, if◌then◌else◌}
use Rattle.std.specs.List.{range_with_len}
use Rattle.serde_json.specs.Data.{Data}
use Rattle.json_reading.specs.Reading.{At, ◌>>=◌, refuse, required_array}
use Rattle.json_reading.specs.Place.{in_item}
use Rattle.fb_types.specs.declared.grid.Node.{Node}
use Rattle.fb_types.specs.declared.keys.Block.{Block}
use Rattle.fb_types.specs.declared.keys.Column.{Column}
use Rattle.run_settings.specs.declared.model.Zone.{Zone}
use Rattle.glsk_keys.specs.Zones.{homes_of, members_of}
use Rattle.glsk_keys.specs.Measures.{values_of, total_of, net_of}
use Rattle.glsk_keys.specs.Scaling.{block_with}
use Rattle.glsk_keys.specs.Document.{Read, Facts, is_of, has_series, series_of}
use Rattle.glsk_keys.specs.declared.measures.Measure.TheVariants.{Size}
use Rattle.glsk_keys.specs.declared.model.KeyKind.{KeyKind}
use Rattle.glsk_keys.specs.declared.model.KeyKind.TheVariants.{Missing, WrongType, NoSeries}
use Rattle.glsk_keys.specs.declared.model.Keys.{Keys}

-- a Core zone without a matching series
abbrev pub is_bare : List Column → ℕ → Zone → Bool
is_bare columns k z = z.core && not (has_series k columns)

-- the first one
abbrev pub first_bare : List Column → ℕ → List Zone → Option ℕ
first_bare columns k [] = None
first_bare columns k (z ∷ zs) = if is_bare columns k z then Some k else first_bare columns (k + 1) zs

abbrev pub no_bare : Option ℕ → Read ⊤
no_bare None = Ok tt
no_bare (Some k) = refuse (in_item (codes "zones") k) NoSeries

-- a zone outside Core has one block of share 100 by the sizes of its loads and generations, if it has any
abbrev pub sizes_of : Facts → ℕ → List ℤ
sizes_of facts zone = values_of Size (members_of zone facts.homes) facts.nodes

abbrev pub default_blocks : List ℤ → List Block
default_blocks sizes = if int_le (total_of sizes) (pos 0) then [] else block_with (pos 100000000) sizes ∷ []

abbrev pub default_column : Facts → ℕ → Bool → Column
default_column facts zone core = record { zone = zone; blocks = if core then [] else default_blocks (sizes_of facts zone) }

-- the columns of the zones from place k on, before any series
abbrev pub defaults_from : Facts → ℕ → List Zone → List Column
defaults_from facts k [] = []
defaults_from facts k (z ∷ zs) = default_column facts k z.core ∷ defaults_from facts (k + 1) zs

-- a zone with a series has the column of that
abbrev pub column_or : List Column → Column → Column
column_or [] default = default
column_or (c ∷ cs) default = if is_of default.zone c then c else column_or cs default

abbrev pub columns_of : Facts → List Column → List Column
columns_of facts series = map (column_or series) (defaults_from facts 0 facts.zones)

-- the reference net position of a zone
abbrev pub position_of : Facts → ℕ → ℤ
position_of facts zone = net_of (members_of zone facts.homes) facts.nodes

abbrev pub positions_of : Facts → List ℤ
positions_of facts = map (position_of facts) (range_with_len 0 (length facts.zones))

unfoldable pub keys_at : Facts → At KeyKind → Read Keys
keys_at facts at = do
  series ← required_array (series_of facts) (codes "series") at
  covered ← no_bare (first_bare series 0 facts.zones)
  Ok (record { columns = columns_of facts series; positions = positions_of facts })

-- what is known of the nodes of a grid, the zones of the settings, and their moment
abbrev pub facts_from : List Node → List Zone → ℤ → Facts
facts_from nodes zones moment = record { nodes = nodes; homes = homes_of zones nodes; zones = zones; moment = moment }

unfoldable pub keys_of : List Node → List Zone → ℤ → Data → Read Keys
keys_of nodes zones moment tree = keys_at (facts_from nodes zones moment) (record { place = []; tree = tree; missing = Missing; wrong = WrongType })
