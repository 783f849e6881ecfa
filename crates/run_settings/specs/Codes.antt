-- The table of the codes that zones list. Nobody need believe these words: they are of private contracts.
use Rattle.std.specs.Prelude.{◌≡◌, ℕ, List}
use Rattle.run_settings.specs.Laws.{AreDistinct}
use Rattle.run_settings.specs.Zones.{zone_codes}
use Rattle.run_settings.specs.declared.model.Zone.{Zone}

-- the table has the codes of the zones
pub record AreCodes (table : List (List ℕ)) (zones : List Zone) : Type 0 where
  pub same : table ≡ zone_codes zones
  pub distinct : AreDistinct (zone_codes zones)
