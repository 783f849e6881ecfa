-- What holds of all settings that are read.
use Rattle.std.specs.Prelude.{◌≡◌, ◌≢◌, ◌≤◌, ◌<◌, ◌^◌, ℕ, ℤ, pos, ◌≤ℤ◌, true, false, List, length, map, IfSome}
use Rattle.std.specs.List.{All, AllPairs, filter}
use Rattle.whole_laws.specs.Sums.{IsWithin}
use Rattle.fb_types.specs.Domain.{IsPoint}
use Rattle.fb_types.specs.declared.grid.Node.{Node}
use Rattle.fb_types.specs.declared.rows.Bounds.{Bounds}
use Rattle.run_settings.specs.Settings.{Said}
use Rattle.run_settings.specs.Zones.{has_core, zone_codes}
use Rattle.run_settings.specs.declared.model.Zone.{Zone}

-- no name stands twice
abbrev pub AreDistinct : List (List ℕ) → Type 0
AreDistinct names = AllPairs (λ a b. a ≢ b) names

-- the bounds of a zone, in watts: within 10^11 and in order, and 0 and 0 outside Core
pub record HasBounds (zone : Zone) : Type 0 where
  pub low : IsWithin (10 ^ 11) zone.bounds.low
  pub high : IsWithin (10 ^ 11) zone.bounds.high
  pub ordered : zone.bounds.low ≤ℤ zone.bounds.high
  pub outside : zone.core ≡ false → (zone.bounds.low ≡ pos 0) × (zone.bounds.high ≡ pos 0)

-- the bounds of the Core zones
abbrev pub core_bounds : List Zone → List Bounds
core_bounds zones = map (λ zone. zone.bounds) (filter (λ zone. zone.core) zones)

abbrev pub ids_of : List Zone → List (List ℕ)
ids_of zones = map (λ zone. zone.id) zones

-- the ids are distinct, and each code stands in one zone, once
pub record AreZones (zones : List Zone) : Type 0 where
  pub ids : AreDistinct (ids_of zones)
  pub codes : AreDistinct (zone_codes zones)
  pub bounds : All HasBounds zones

pub record AreSettings (nodes : List Node) (what : Said) : Type 0 where
  pub zones : AreZones what.zones
  pub few : length what.zones ≤ 64
  pub core : has_core what.zones ≡ true
  -- there are net positions of the Core zones, each within its bounds, with the sum 0
  pub point : (x : List ℤ) × IsPoint (core_bounds what.zones) x
  pub ramr : what.ramr ≤ 1000
  pub threshold : what.threshold ≤ 1000
  pub slack : IfSome what.slack (λ place. place < length nodes)
