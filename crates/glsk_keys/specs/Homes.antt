-- Tables of the zones of two-letter codes. Nobody need believe these words: they are of private contracts.
use Rattle.std.specs.Prelude.{◌≡◌, ℕ, List, Option, Some, None, if◌then◌else◌}
use Rattle.name_tables.specs.Names.{is_among, value_at}
use Rattle.run_settings.specs.declared.model.Zone.{Zone}
use Rattle.std.specs.List.{position_from}
use Rattle.glsk_keys.specs.Zones.{lists, zone_of_code}

abbrev pub or_else : Option ℕ → Option ℕ → Option ℕ
or_else None other = other
or_else (Some x) other = Some x

-- the table has the zone of each code
pub record AreHomes (table : List (List ℕ × ℕ)) (zones : List Zone) : Type 0 where
  pub each : (code : List ℕ) → value_at table code ≡ zone_of_code zones code

-- the table after has these codes too, of a zone
pub record AreNoted (before after : List (List ℕ × ℕ)) (codes : List (List ℕ)) (zone : ℕ) : Type 0 where
  pub each : (code : List ℕ) → value_at after code ≡ or_else (value_at before code) (if is_among codes code then Some zone else None)

-- the table, with the zones that are left, which go on from a place, has the zone of each code
pub record WillBeHomes (table : List (List ℕ × ℕ)) (place : ℕ) (left zones : List Zone) : Type 0 where
  pub each : (code : List ℕ) → or_else (value_at table code) (position_from (lists code) place left) ≡ zone_of_code zones code
