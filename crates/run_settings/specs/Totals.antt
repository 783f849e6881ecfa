-- Sums over a front of the zones. Nobody need believe these words: they are of an invariant.
use Rattle.std.specs.Prelude.{◌≡◌, ◌*◌, ◌^◌, ℕ, ℤ, List, take}
use Rattle.whole_laws.specs.Sums.{IsWithin}
use Rattle.run_settings.specs.Zones.{least_sum, greatest_sum}
use Rattle.run_settings.specs.declared.model.Zone.{Zone}

-- the sums of the least and of the greatest net positions of the first so many zones, and their size
pub record AreTotals (zones : List Zone) (count : ℕ) (low high : ℤ) : Type 0 where
  pub low_is : low ≡ least_sum (take count zones)
  pub high_is : high ≡ greatest_sum (take count zones)
  pub low_size : IsWithin (count * 2 ^ 63) low
  pub high_size : IsWithin (count * 2 ^ 63) high
