-- When a list of net positions is secure: no selected row carries more than its top, in any of the grid states that are monitored.
-- (Critical network elements with contingencies of the Core day-ahead capacity calculation methodology, ACER decision 02-2019,
-- annex I.)
use Rattle.std.specs.Prelude.{◌≡◌, ℕ, ℤ, pos, List, All, Some, slice_get}
use Rattle.fractions.specs.Fractions.{AtMost}
use Rattle.fb_types.specs.declared.grid.Branch.{Branch}
use Rattle.fb_types.specs.declared.grid.Grid.{Grid}
use Rattle.fb_types.specs.declared.rows.Bounds.{Bounds}
use Rattle.grid_state.specs.GridState.{GridState}
use Rattle.security.specs.Flows.{ExactAngles}
use Rattle.security.specs.Margins.{ElementNumbers}
use Rattle.security.specs.Spreads.{IsSelected}
use Rattle.security.specs.Rows.{Row, KeyedZone, Choice, IsChoice, spread_of_row, top_of_row}
use Rattle.security.specs.Points.{AreAnglesAt, row_flow_at}

-- a row is safe at x: where it is selected, its flow there, by nodal injections, is at most its top, whatever exact angles are
-- chosen
abbrev pub IsSafe : GridState → Grid → List KeyedZone → Row → ℕ → List ℤ → Type 0
IsSafe s grid zones row threshold x =
    (choice : Choice) → IsChoice s grid zones choice → (e : ExactAngles) → AreAnglesAt s grid zones x e
    → IsSelected (pos threshold) (spread_of_row s row choice) → AtMost (row_flow_at s row e) (top_of_row s row choice)

-- ---- All rows

-- a row that is monitored: the number of its grid state, the place of its branch in the grid, 1 or −1 for its direction along the
-- branch, and what is stated of its element
pub record MonitoredRow : Type 0 where
  pub state : ℕ
  pub branch : ℕ
  pub direction : ℤ
  pub numbers : ElementNumbers

-- what a domain is made of: the grid and its states, the zones with their keys, the bounds of the zones of Core, the threshold by
-- which rows are selected, in thousandths, and the rows
pub record Situation : Type 0 where
  pub grid : Grid
  pub states : List GridState
  pub zones : List KeyedZone
  pub bounds : List Bounds
  pub threshold : ℕ
  pub rows : List MonitoredRow

-- the state that a row is monitored in, and its branch
pub record RowPlace : Type 0 where
  pub state : GridState
  pub branch : Branch

pub record IsPlaceIn (situation : Situation) (row : MonitoredRow) (place : RowPlace) : Type 0 where
  pub state : slice_get situation.states row.state ≡ Some place.state
  pub branch : slice_get situation.grid.branches row.branch ≡ Some place.branch

-- the row over its branch
abbrev pub row_at_place : MonitoredRow → RowPlace → Row
row_at_place row place = record { branch = record { number = row.branch; branch = place.branch }; direction = row.direction; numbers = row.numbers }

-- a row is safe at x, in its state
abbrev pub IsSafeRow : Situation → List ℤ → MonitoredRow → Type 0
IsSafeRow situation x row =
    (place : RowPlace) → IsPlaceIn situation row place
    → IsSafe place.state situation.grid situation.zones (row_at_place row place) situation.threshold x

-- all rows are safe at x
pub record IsSecure (situation : Situation) (x : List ℤ) : Type 0 where
  pub each : All (IsSafeRow situation x) situation.rows
