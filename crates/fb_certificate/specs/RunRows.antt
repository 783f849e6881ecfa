-- The rows of a run as values. Nobody need read this to know what a domain promises.
use Rattle.std.specs.Prelude.{◌≡◌, ℕ, ℤ, Bool, true, false, List, map, Some, slice_get}
use Rattle.fb_types.specs.declared.crac.Element.{Element}
use Rattle.run_settings.specs.Reductions.{limit_in}
use Rattle.fb_certificate.specs.CracRows.{CracRow, crac_rows, state_of_row}
use Rattle.fb_certificate.specs.Situations.{stated}
use Rattle.fb_certificate.specs.declared.types.Direction.{Direction}
use Rattle.fb_certificate.specs.declared.types.Direction.TheVariants.{Direct, Opposite}
use Rattle.fb_certificate.specs.declared.types.Inputs.{Inputs}
use Rattle.fb_certificate.specs.declared.types.RunRow.{RunRow}

-- ---- Directions

abbrev pub is_opposite : Direction → Bool
is_opposite Direct = false
is_opposite Opposite = true

abbrev pub directed : Bool → Direction
directed false = Direct
directed true = Opposite

-- ---- Rows

-- what a run needs of a row
abbrev pub run_row : Inputs → CracRow → RunRow
run_row inputs row = record {
  element = row.place;
  direction = directed row.opposite;
  state = state_of_row inputs.outages row;
  terms = stated inputs row;
}

abbrev pub run_rows : Inputs → List RunRow
run_rows inputs = map (run_row inputs) (crac_rows inputs.crac.elements)

-- the row of the element at a place, in a direction, with its limit there
abbrev pub row_with : ℕ → Element → Direction → ℤ → CracRow
row_with place element direction limit = record { place = place; element = element; opposite = is_opposite direction; limit = limit }

-- a row of the elements: its element stands at its place and has its limit in its direction
pub record IsCracRow (elements : List Element) (row : CracRow) : Type 0 where
  pub same_element : slice_get elements row.place ≡ Some row.element
  pub limited : limit_in row.opposite row.element ≡ Some row.limit
