-- The flow of a row where the zones of Core have other net positions than at the reference, by nodal injections: shift keys say
-- what the nodes of a zone feed in then, and no zonal factor is used. Exact angles for them always exist
-- (`row_security::choices`). (The usual DC load flow; shift keys as in the Core day-ahead capacity calculation methodology, ACER
-- decision 02-2019, annex I.)
use Rattle.std.specs.Prelude.{◌≡◌, ℕ, ◌<◌, ℤ, ◌≤ℤ◌, List, length, map, slice_get}
use Rattle.std.specs.List.{filter, zip}
use Rattle.whole_laws.specs.Sums.{at}
use Rattle.fractions.specs.Fractions.{Fraction, times}
use Rattle.fb_types.specs.Domain.{low_of, high_of}
use Rattle.fb_types.specs.declared.grid.Grid.{Grid}
use Rattle.fb_types.specs.declared.rows.Bounds.{Bounds}
use Rattle.grid_state.specs.GridState.{GridState}
use Rattle.security.specs.Balances.{Exchange, balance_with}
use Rattle.security.specs.Flows.{ExactAngles, AreAnglesFor, flow_with}
use Rattle.security.specs.Rows.{Row, KeyedZone}

-- one net position for each zone, each within the zone's bounds
pub record IsInBox (bounds : List Bounds) (x : List ℤ) : Type 0 where
  pub zones : length x ≡ length bounds
  pub inside : (z : ℕ) → z < length bounds → (low_of (slice_get bounds z) ≤ℤ at x z) × (at x z ≤ℤ high_of (slice_get bounds z))

-- the zones of Core with net positions of their own
abbrev pub exchange_of : KeyedZone × ℤ → Exchange
exchange_of e = record { key = e.0.key; reference = e.0.position; position = e.1 }

abbrev pub exchanges_at : List KeyedZone → List ℤ → List Exchange
exchanges_at zones x = map exchange_of (zip (filter (λ z. z.is_core) zones) x)

-- exact angles of the state where the zones of Core have the net positions x
abbrev pub AreAnglesAt : GridState → Grid → List KeyedZone → List ℤ → ExactAngles → Type 0
AreAnglesAt s grid zones x e = AreAnglesFor s (balance_with s grid (exchanges_at zones x)) e

-- the flow of the row by such angles, in watts
abbrev pub row_flow_at : GridState → Row → ExactAngles → Fraction
row_flow_at s row e = times row.direction (flow_with s row.branch e)
