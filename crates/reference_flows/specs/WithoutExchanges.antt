-- The reference flow of a row without exchanges of zones, as spans. Nobody need read this to know what a domain promises.
-- Spans are in picowatts, factors in 10^-12, and the net positions of the zones at the reference in watts. (Core day-ahead
-- capacity calculation methodology, ACER decision 02-2019, annex I.)
use Rattle.std.specs.Prelude.{◌≡◌, ℕ, ◌+◌, ℤ, pos, ◌-ℤ◌, ◌*ℤ◌, Bool, true, false, List, [], ◌∷◌, map, nat_abs}
use Rattle.std.specs.Int.{int_max, int_min}
use Rattle.std.specs.List.{zip}
use Rattle.whole_laws.specs.Sums.{sum_over}
use Rattle.fractions.specs.Fractions.{Fraction}
use Rattle.fractions.specs.Spans.{LiesAt, EachLiesAt}
use Rattle.security.specs.Exchanges.{ZoneOfRow, without_core_of, without_any_of, external_of}

-- the number of picowatts in a watt
abbrev pub trillion : ℤ
trillion = pos 1000000000000

-- the least and the most that a factor in its span times the net position can be
abbrev pub least_exchange : (ℤ × ℤ) × ℤ → ℤ
least_exchange z = int_min (z.1 *ℤ z.0.0) (z.1 *ℤ z.0.1)

abbrev pub greatest_exchange : (ℤ × ℤ) × ℤ → ℤ
greatest_exchange z = int_max (z.1 *ℤ z.0.0) (z.1 *ℤ z.0.1)

-- the same of all zones together
abbrev pub exchanges_span : List (ℤ × ℤ) → List ℤ → ℤ × ℤ
exchanges_span factors positions = (sum_over least_exchange (zip factors positions), sum_over greatest_exchange (zip factors positions))

-- the net position of a zone that counts, and 0 for one that does not: those of Core count, or those outside it
abbrev pub counted_of : Bool → ℤ → Bool → ℤ
counted_of true position true = position
counted_of true position false = pos 0
counted_of false position true = pos 0
counted_of false position false = position

abbrev pub counted_positions : Bool → List ℤ → List Bool → List ℤ
counted_positions core [] cs = []
counted_positions core (p ∷ ps) [] = []
counted_positions core (p ∷ ps) (c ∷ cs) = counted_of core p c ∷ counted_positions core ps cs

-- what is left of the reference flow
abbrev pub less_exchanges : ℤ × ℤ → ℤ × ℤ → ℤ × ℤ
less_exchanges reference exchanges = (reference.0 -ℤ exchanges.1, reference.1 -ℤ exchanges.0)

-- the sizes of net positions, added up
abbrev pub sizes_of : List ℤ → ℕ
sizes_of [] = 0
sizes_of (p ∷ ps) = nat_abs p + sizes_of ps

-- ---- what the spans hold

-- zones with these net positions, whose factors lie in the spans
pub record HaveNumbers (factors : List (ℤ × ℤ)) (positions : List ℤ) (zones : List ZoneOfRow) : Type 0 where
  pub each_lies : EachLiesAt trillion factors (map (λ z. z.factor) zones)
  pub same_positions : map (λ z. z.position) zones ≡ positions

abbrev pub AreOfCore : List Bool → List ZoneOfRow → Type 0
AreOfCore core zones = map (λ z. z.is_core) zones ≡ core

abbrev pub HoldsWithoutCore : ℤ × ℤ → List (ℤ × ℤ) → List ℤ → List Bool → ℤ × ℤ → Type 0
HoldsWithoutCore reference factors positions core span =
    (flow : Fraction) (zones : List ZoneOfRow) → LiesAt trillion reference flow → HaveNumbers factors positions zones → AreOfCore core zones → LiesAt trillion span (without_core_of flow zones)

abbrev pub HoldsWithoutAny : ℤ × ℤ → List (ℤ × ℤ) → List ℤ → ℤ × ℤ → Type 0
HoldsWithoutAny reference factors positions span =
    (flow : Fraction) (zones : List ZoneOfRow) → LiesAt trillion reference flow → HaveNumbers factors positions zones → LiesAt trillion span (without_any_of flow zones)

-- whatever the reference flow is
abbrev pub HoldsExternal : List (ℤ × ℤ) → List ℤ → List Bool → ℤ × ℤ → Type 0
HoldsExternal factors positions core span =
    (flow : Fraction) (zones : List ZoneOfRow) → HaveNumbers factors positions zones → AreOfCore core zones → LiesAt trillion span (external_of flow zones)
