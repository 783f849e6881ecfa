-- What holds of all keys that are read.
use Rattle.std.specs.Prelude.{◌≡◌, ◌≢◌, ◌⊎◌, ◌<◌, ◌≤◌, ◌^◌, ℕ, ℤ, pos, ◌≤ℤ◌, ◌<ℤ◌, true, List, [], length, map, nat_abs, slice_index_or, Option}
use Rattle.std.specs.List.{All, range_with_len}
use Rattle.whole_laws.specs.Sums.{sum_over, total_below, at}
use Rattle.fb_types.specs.declared.grid.Node.{Node}
use Rattle.fb_types.specs.declared.keys.Weight.{Weight}
use Rattle.fb_types.specs.declared.keys.Block.{Block}
use Rattle.fb_types.specs.declared.keys.Column.{Column}
use Rattle.run_settings.specs.declared.model.Zone.{Zone}
use Rattle.glsk_keys.specs.Zones.{homes_of, members_of, is_member}
use Rattle.glsk_keys.specs.Measures.{net_of}
use Rattle.glsk_keys.specs.declared.model.Keys.{Keys}

abbrev pub number : Weight → ℤ
number w = w.weight

abbrev pub share_in : Block → ℤ
share_in b = b.share

-- a weight of a node of the zone
pub record IsWeight (homes : List (Option ℕ)) (zone : ℕ) (w : Weight) : Type 0 where
  pub node : w.node < length homes
  pub of_zone : is_member zone homes w.node ≡ true
  pub positive : pos 0 <ℤ w.weight

-- the share is not negative, and the total is the sum of the weights: above 10^11 and at most 10^12
pub record IsBlock (homes : List (Option ℕ)) (zone : ℕ) (b : Block) : Type 0 where
  pub share : pos 0 ≤ℤ b.share
  pub weights : All (IsWeight homes zone) b.weights
  pub total : b.total ≡ sum_over number b.weights
  pub some : pos (10 ^ 11) <ℤ b.total
  pub few : b.total ≤ℤ pos (10 ^ 12)

-- a zone has at most 4 blocks; the shares of one with blocks add up to 10^8
pub record IsColumn (homes : List (Option ℕ)) (zone : ℕ) (c : Column) : Type 0 where
  pub of_zone : c.zone ≡ zone
  pub blocks : All (IsBlock homes zone) c.blocks
  pub few : length c.blocks ≤ 4
  pub whole : (c.blocks ≡ []) ⊎ (sum_over share_in c.blocks ≡ pos (10 ^ 8))

-- the reference net position of each zone: what its nodes feed in together, in watts
abbrev pub net_positions_of : List Node → List Zone → List ℤ
net_positions_of nodes zones =
    map (λ zone. net_of (members_of zone (homes_of zones nodes)) nodes) (range_with_len 0 (length zones))

-- one column and one position for each zone, which is the reference net position; each Core zone has blocks; the positions
-- together are at most 10^12 W in size
pub record AreKeys (nodes : List Node) (zones : List Zone) (keys : Keys) : Type 0 where
  pub columns : length keys.columns ≡ length zones
  pub positions : length keys.positions ≡ length zones
  pub reference : keys.positions ≡ net_positions_of nodes zones
  pub each : (k : ℕ) (d : Column) → k < length zones → IsColumn (homes_of zones nodes) k (slice_index_or keys.columns k d)
  pub core : (k : ℕ) (d : Column) (e : Zone) → k < length zones → (slice_index_or zones k e).core ≡ true → (slice_index_or keys.columns k d).blocks ≢ []
  pub small : total_below (length zones) (λ k. nat_abs (at keys.positions k)) ≤ 10 ^ 12
