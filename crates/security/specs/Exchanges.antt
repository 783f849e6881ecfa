-- The flow of a row without exchanges of zones, in watts, as the day-ahead capacity calculation methodology of the Core
-- region defines it (ACER decision 02-2019, annex I).
use Rattle.std.specs.Prelude.{ℤ, Bool, List}
use Rattle.std.specs.List.{filter}
use Rattle.fractions.specs.Fractions.{Fraction, minus, times, total}

-- a zone as a row sees it: its factor, its net position at the reference, and whether it is one of Core
pub record ZoneOfRow : Type 0 where
  pub factor : Fraction
  pub position : ℤ
  pub is_core : Bool

-- what the exchanges of zones put on the row at the reference: the sum of factor times net position
abbrev pub exchanged_of : List ZoneOfRow → Fraction
exchanged_of zones = total (λ z. times z.position z.factor) zones

-- F0,Core: the reference flow without the exchanges of Core
abbrev pub without_core_of : Fraction → List ZoneOfRow → Fraction
without_core_of reference zones = minus reference (exchanged_of (filter (λ z. z.is_core) zones))

-- F0,all: the reference flow without any exchanges
abbrev pub without_any_of : Fraction → List ZoneOfRow → Fraction
without_any_of reference zones = minus reference (exchanged_of zones)

-- Fuaf, the flow of exchanges outside Core: F0,Core − F0,all
abbrev pub external_of : Fraction → List ZoneOfRow → Fraction
external_of reference zones = minus (without_core_of reference zones) (without_any_of reference zones)
