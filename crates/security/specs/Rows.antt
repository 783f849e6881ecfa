-- The exact numbers of a row of the domain. A row is a monitored element (CNEC) in one direction. All of them speak of exact
-- angles, which are chosen freely: there always are some (`row_security::choices`), and all give the same fractions
-- (`grid_laplacian::laws`). (Core day-ahead capacity calculation methodology, ACER decision 02-2019, annex I.)
use Rattle.std.specs.Prelude.{◌≡◌, ℕ, ℤ, pos, negsuc, Bool, true, false, List, map, All}
use Rattle.std.specs.List.{filter}
use Rattle.fractions.specs.Fractions.{Fraction, times}
use Rattle.fb_types.specs.declared.grid.Grid.{Grid}
use Rattle.fb_types.specs.declared.keys.Column.{Column}
use Rattle.grid_state.specs.GridState.{GridState}
use Rattle.security.specs.Balances.{base_balance}
use Rattle.security.specs.Flows.{ExactAngles, AreAnglesOf, NumberedBranch, reference_flow_of, factor_of, AreAnglesOfKey}
use Rattle.security.specs.Exchanges.{ZoneOfRow, without_core_of, external_of}
use Rattle.security.specs.Margins.{ElementNumbers, ram_of, top_of}
use Rattle.security.specs.Spreads.{spread_of, IsSelected}

-- a row: its branch, 1 or −1 for its direction along the branch, and what is stated of its element
pub record Row : Type 0 where
  pub branch : NumberedBranch
  pub direction : ℤ
  pub numbers : ElementNumbers

-- 1 along the branch, −1 against it
abbrev pub direction_of : Bool → ℤ
direction_of false = pos 1
direction_of true = negsuc 0

-- a zone: its shift key, its net position at the reference, and whether it is one of Core
pub record KeyedZone : Type 0 where
  pub key : Column
  pub position : ℤ
  pub is_core : Bool

-- a zone with exact angles of the weights of each block of its key
pub record SolvedZone : Type 0 where
  pub zone : KeyedZone
  pub blocks : List ExactAngles

-- the exact angles that the numbers of a row are told by: of the base balance, and of every zone
pub record Choice : Type 0 where
  pub reference : ExactAngles
  pub zones : List SolvedZone

-- they are angles of the state, for these zones
pub record IsChoice (s : GridState) (grid : Grid) (zones : List KeyedZone) (choice : Choice) : Type 0 where
  pub reference : AreAnglesOf s (base_balance s grid) choice.reference
  -- one for each zone, in their order
  pub same_zones : map (λ z. z.zone) choice.zones ≡ zones
  pub blocks : All (λ z. AreAnglesOfKey s z.zone.key z.blocks) choice.zones

-- ---- The numbers of a row

-- the factor of a zone
abbrev pub row_factor_of : GridState → Row → SolvedZone → Fraction
row_factor_of s row z = times row.direction (factor_of s row.branch z.zone.key z.blocks)

-- the reference flow, in watts
abbrev pub row_reference_of : GridState → Row → Choice → Fraction
row_reference_of s row choice = times row.direction (reference_flow_of s row.branch choice.reference)

-- the zones as the row sees them
abbrev pub seen_by : GridState → Row → SolvedZone → ZoneOfRow
seen_by s row z = record { factor = row_factor_of s row z; position = z.zone.position; is_core = z.zone.is_core }

-- the flow without exchanges of Core, and the flow of exchanges outside Core
abbrev pub f0core_of : GridState → Row → Choice → Fraction
f0core_of s row choice = without_core_of (row_reference_of s row choice) (map (seen_by s row) choice.zones)

abbrev pub fuaf_of : GridState → Row → Choice → Fraction
fuaf_of s row choice = external_of (row_reference_of s row choice) (map (seen_by s row) choice.zones)

-- the most that the flow may be, and the margin, in watts
abbrev pub top_of_row : GridState → Row → Choice → Fraction
top_of_row s row choice = top_of row.numbers (f0core_of s row choice) (fuaf_of s row choice)

abbrev pub ram_of_row : GridState → Row → Choice → Fraction
ram_of_row s row choice = ram_of row.numbers (f0core_of s row choice) (fuaf_of s row choice)

-- the zones of Core, and their factors
abbrev pub core_of : List SolvedZone → List SolvedZone
core_of zones = filter (λ z. z.zone.is_core) zones

abbrev pub core_factors_of : GridState → Row → Choice → List Fraction
core_factors_of s row choice = map (row_factor_of s row) (core_of choice.zones)

-- the zone-to-zone spread
abbrev pub spread_of_row : GridState → Row → Choice → Fraction
spread_of_row s row choice = spread_of (core_factors_of s row choice)

-- ---- Selection

-- the row is not selected, or it is, whatever exact angles are chosen. The threshold is in thousandths
abbrev pub IsBelow : GridState → Grid → List KeyedZone → Row → ℕ → Type 0
IsBelow s grid zones row threshold = (choice : Choice) → IsChoice s grid zones choice → ¬ (IsSelected (pos threshold) (spread_of_row s row choice))

abbrev pub IsAlwaysSelected : GridState → Grid → List KeyedZone → Row → ℕ → Type 0
IsAlwaysSelected s grid zones row threshold = (choice : Choice) → IsChoice s grid zones choice → IsSelected (pos threshold) (spread_of_row s row choice)
