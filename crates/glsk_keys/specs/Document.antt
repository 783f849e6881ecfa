-- What a document of shift keys says, member by member in the order in which it is read, or its one first fault.
use Rattle.std.specs.Prelude.{ℕ, ◌==◌, ℤ, pos, Bool, not, List, length, Option, Some, None, Ok, codes, nat_lt, int_lt, int_le, ◌&&◌, if◌then◌else◌}
use Rattle.std.specs.List.{list_any}
use Rattle.std.specs.Str.{bytes_eq}
use Rattle.whole_laws.specs.Sums.{sum_over}
use Rattle.fb_json.specs.Tree.{text_of, decimal_of, length_of}
use Rattle.fb_types.specs.declared.grid.Node.{Node}
use Rattle.fb_types.specs.declared.keys.Weight.{Weight}
use Rattle.fb_types.specs.declared.keys.Block.{Block}
use Rattle.fb_types.specs.declared.keys.Column.{Column}
use Rattle.json_reading.specs.Reading.{At, Reading, ◌>>=◌, fault_here, fault_in, refuse_if, found_or, found_or_missing, required, here, spot, optional_array, required_array}
use Rattle.run_settings.specs.Nodes.{node_named}
use Rattle.run_settings.specs.Times.{moment_of}
use Rattle.run_settings.specs.declared.model.Zone.{Zone}
use Rattle.glsk_keys.specs.Zones.{zone_named, is_member, members_of, listed_of}
use Rattle.glsk_keys.specs.Measures.{values_of, factors_of, total_of}
use Rattle.glsk_keys.specs.Scaling.{block_with}
use Rattle.glsk_keys.specs.declared.measures.Measure.{Measure}
use Rattle.glsk_keys.specs.declared.measures.Measure.TheVariants.{Generation, Load, One}
use Rattle.glsk_keys.specs.declared.model.KeyKind.{KeyKind}
use Rattle.glsk_keys.specs.declared.model.KeyKind.TheVariants.{Missing, WrongType, BadTime, UnknownNode, WrongZone, SharesNot100, EmptyKey, NegativeFactor, OutOfRange, TooMany, TwoSeries}
use Rattle.glsk_keys.specs.declared.blocks.Form.{Form}
use Rattle.glsk_keys.specs.declared.blocks.Form.TheVariants.{Manual, Proportional, Country}

abbrev pub Read : Type 0 → Type 0
Read A = Reading KeyKind A

-- What is known of the grid and the settings: the nodes, the zone of each, the zones, and the moment, in nanoseconds.
pub record Facts : Type 0 where
  pub nodes : List Node
  pub homes : List (Option ℕ)
  pub zones : List Zone
  pub moment : ℤ

-- ---- nodes

-- the node that a text names: it must be of the zone
unfoldable pub node_here : Facts → ℕ → At KeyKind → Read ℕ
node_here facts zone at = do
  name ← here text_of at
  node ← found_or (node_named facts.nodes name) (fault_here UnknownNode at)
  member ← refuse_if (not (is_member zone facts.homes node)) (fault_here WrongZone at)
  Ok node

unfoldable pub node_in : Facts → ℕ → List ℕ → At KeyKind → Read ℕ
node_in facts zone name at = do
  found ← spot name at
  there ← found_or_missing name at found
  node_here facts zone there

-- a node in a list of codes
unfoldable pub listed_node_of : Facts → ℕ → List ℕ → At KeyKind → Read (Option ℕ)
listed_node_of facts zone before at = do
  node ← node_here facts zone at
  Ok (Some node)

-- a factor, from 0 to 10^6, in millionths
unfoldable pub factor_of : At KeyKind → Read ℤ
factor_of at = do
  factor ← required decimal_of (codes "factor") at
  positive ← refuse_if (int_lt factor.millionths (pos 0)) (fault_in (codes "factor") NegativeFactor at)
  small ← refuse_if (int_lt (pos 1000000000000) factor.millionths) (fault_in (codes "factor") OutOfRange at)
  Ok factor.millionths

-- a node with its factor
unfoldable pub weight_of : Facts → ℕ → List Weight → At KeyKind → Read (Option Weight)
weight_of facts zone before at = do
  node ← node_in facts zone (codes "node") at
  factor ← factor_of at
  Ok (Some (record { node = node; weight = factor }))

-- ---- blocks: the weights are numbers, one for each node of the grid

-- manual: the sums of the factors that nodes are given
unfoldable pub manual_of : Facts → ℕ → At KeyKind → Read (List ℤ)
manual_of facts zone at = do
  listed ← required_array (weight_of facts zone) (codes "nodes") at
  Ok (factors_of (length facts.nodes) listed)

abbrev pub chosen_of : Facts → ℕ → Option (List ℕ) → List Bool
chosen_of facts zone None = members_of zone facts.homes
chosen_of facts zone (Some listed) = listed_of (length facts.nodes) listed

-- proportional: what nodes generate or consume, all of the zone, or those of a list
unfoldable pub proportional_of : Facts → ℕ → Measure → At KeyKind → Read (List ℤ)
proportional_of facts zone measure at = do
  listed ← optional_array (listed_node_of facts zone) (codes "nodes") at
  Ok (values_of measure (chosen_of facts zone listed) facts.nodes)

-- country: 1 for each node of the zone
abbrev pub weights_by : Facts → ℕ → Measure → Form → At KeyKind → Read (List ℤ)
weights_by facts zone measure Manual at = manual_of facts zone at
weights_by facts zone measure Proportional at = proportional_of facts zone measure at
weights_by facts zone measure Country at = Ok (values_of One (members_of zone facts.homes) facts.nodes)

abbrev pub form_named : List ℕ → Option Form
form_named word =
    if bytes_eq word (codes "manual") then Some Manual
    else (if bytes_eq word (codes "proportional") then Some Proportional else (if bytes_eq word (codes "country") then Some Country else None))

unfoldable pub weights_of : Facts → ℕ → Measure → At KeyKind → Read (List ℤ)
weights_of facts zone measure at = do
  word ← required text_of (codes "kind") at
  form ← found_or (form_named word) (fault_in (codes "kind") WrongType at)
  weights_by facts zone measure form at

-- a key of generation, or of load
abbrev pub business_named : List ℕ → Option Measure
business_named word = if bytes_eq word (codes "GSK") then Some Generation else (if bytes_eq word (codes "LSK") then Some Load else None)

-- a share from 0 to 100 per cent: a millionth of a per cent is 10^-8
unfoldable pub share_of : At KeyKind → Read ℤ
share_of at = do
  share ← required decimal_of (codes "share") at
  positive ← refuse_if (int_lt share.millionths (pos 0)) (fault_in (codes "share") NegativeFactor at)
  small ← refuse_if (int_lt (pos 100000000) share.millionths) (fault_in (codes "share") OutOfRange at)
  Ok share.millionths

unfoldable pub block_of : Facts → ℕ → List Block → At KeyKind → Read (Option Block)
block_of facts zone before at = do
  word ← required text_of (codes "business") at
  measure ← found_or (business_named word) (fault_in (codes "business") WrongType at)
  share ← share_of at
  weights ← weights_of facts zone measure at
  some ← refuse_if (int_le (total_of weights) (pos 0)) (fault_here EmptyKey at)
  few ← refuse_if (int_lt (pos 1000000000000) (total_of weights)) (fault_here OutOfRange at)
  Ok (Some (block_with share weights))

abbrev pub shares_of : List Block → ℤ
shares_of blocks = sum_over (λ b. b.share) blocks

-- all shares together are 100 per cent
abbrev pub are_whole : List Block → Bool
are_whole blocks = int_le (shares_of blocks) (pos 100000000) && int_le (pos 100000000) (shares_of blocks)

unfoldable pub blocks_of : Facts → ℕ → At KeyKind → Read (List Block)
blocks_of facts zone at = do
  count ← required length_of (codes "blocks") at
  some ← refuse_if (count == 0) (fault_in (codes "blocks") Missing at)
  few ← refuse_if (nat_lt 4 count) (fault_in (codes "blocks") TooMany at)
  blocks ← required_array (block_of facts zone) (codes "blocks") at
  whole ← refuse_if (not (are_whole blocks)) (fault_in (codes "blocks") SharesNot100 at)
  Ok blocks

-- ---- series

-- whether an earlier series of the zone matched
abbrev pub is_of : ℕ → Column → Bool
is_of zone column = column.zone == zone

abbrev pub has_series : ℕ → List Column → Bool
has_series zone columns = list_any (is_of zone) columns

-- a series that matches the moment
unfoldable pub matching_of : Facts → ℕ → List Column → At KeyKind → Read (Option Column)
matching_of facts zone before at = do
  only ← refuse_if (has_series zone before) (fault_here TwoSeries at)
  blocks ← blocks_of facts zone at
  Ok (Some (record { zone = zone; blocks = blocks }))

-- the moment is not before the series begins, and before it ends
abbrev pub holds : ℤ → ℤ → ℤ → Bool
holds from to moment = int_le from moment && int_lt moment to

-- a series of a zone of the settings; the rest of one that does not match is passed over
unfoldable pub zone_series_of : Facts → ℕ → List Column → At KeyKind → Read (Option Column)
zone_series_of facts zone before at = do
  from ← moment_of BadTime (codes "from") at
  to ← moment_of BadTime (codes "to") at
  if holds from to facts.moment then matching_of facts zone before at else Ok None

-- a series of any other zone is passed over unread
abbrev pub series_for : Facts → List Column → At KeyKind → Option ℕ → Read (Option Column)
series_for facts before at None = Ok None
series_for facts before at (Some zone) = zone_series_of facts zone before at

unfoldable pub series_of : Facts → List Column → At KeyKind → Read (Option Column)
series_of facts before at = do
  id ← required text_of (codes "zone") at
  series_for facts before at (zone_named facts.zones id)
