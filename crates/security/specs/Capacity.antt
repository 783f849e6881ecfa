-- The capacity theorem: what the rows of a flow-based domain say of secure net positions. (Flow-based domains of the Core day-ahead
-- capacity calculation methodology, ACER decision 02-2019, annex I: limits on the net positions of bidding zones.)
use Rattle.std.specs.Prelude.{ℤ, List}
use Rattle.fractions.specs.Fractions.{AtMost}
use Rattle.fb_types.specs.Domain.{IsPoint, Meets}
use Rattle.fb_types.specs.declared.grid.Grid.{Grid}
use Rattle.fb_types.specs.declared.rows.Bounds.{Bounds}
use Rattle.grid_state.specs.GridState.{GridState}
use Rattle.security.specs.Flows.{ExactAngles}
use Rattle.security.specs.Rows.{Row, KeyedZone, Choice, IsChoice, top_of_row}
use Rattle.security.specs.Points.{IsInBox, AreAnglesAt, row_flow_at}
use Rattle.security.specs.Secure.{Situation, IsSecure}

-- ---- One row

-- Whatever exact angles are chosen, and wherever x is in the box of the Core zones: where x meets the inner row, the flow at x is
-- at most the top, and where the flow is at most the top, x meets the outer row.
pub record IsBracketed (s : GridState) (grid : Grid) (zones : List KeyedZone) (row : Row) (bounds : List Bounds) (a : List ℤ) (r_in r_out : ℤ) : Type 0 where
  pub inner : (choice : Choice) → IsChoice s grid zones choice → (x : List ℤ) → IsInBox bounds x → (e : ExactAngles) → AreAnglesAt s grid zones x e
      → Meets (record { a = a; r = r_in }) x → AtMost (row_flow_at s row e) (top_of_row s row choice)
  pub outer : (choice : Choice) → IsChoice s grid zones choice → (x : List ℤ) → IsInBox bounds x → (e : ExactAngles) → AreAnglesAt s grid zones x e
      → AtMost (row_flow_at s row e) (top_of_row s row choice) → Meets (record { a = a; r = r_out }) x

-- ---- The domain

-- x is a balanced list of net positions of the zones of Core, each within its bounds
abbrev pub IsPosition : Situation → List ℤ → Type 0
IsPosition situation x = IsPoint situation.bounds x

-- Every balanced list of net positions in the box that meets the inner list is secure, and every secure one meets the outer list;
-- what it is to meet them is a parameter.
pub record BracketSecure (situation : Situation) (MeetsInner MeetsOuter : List ℤ → Type 0) : Type 0 where
  pub inner : (x : List ℤ) → IsPosition situation x → MeetsInner x → IsSecure situation x
  pub outer : (x : List ℤ) → IsPosition situation x → IsSecure situation x → MeetsOuter x
