-- The law on what makes a row bracket the exact flow. Nobody need read this to know what a domain promises: it is proved of it.
use Rattle.std.specs.Prelude.{◌≡◌, ℤ, List, length}
use Rattle.std.specs.List.{filter}
use Rattle.fractions.specs.Spans.{LiesAt, EachLiesAt}
use Rattle.fb_types.specs.declared.grid.Grid.{Grid}
use Rattle.fb_types.specs.declared.rows.Bounds.{Bounds}
use Rattle.grid_state.specs.GridState.{GridState}
use Rattle.domain_rows.specs.Brackets.{trillion, Brackets}
use Rattle.security.specs.Rows.{Row, KeyedZone, Choice, IsChoice, core_factors_of, ram_of_row}
use Rattle.security.specs.Capacity.{IsBracketed}

-- the spans hold the factors of the Core zones, in 10^-12, and the margin, in picowatts, whatever exact angles are chosen
pub record HoldsRow (s : GridState) (grid : Grid) (zones : List KeyedZone) (row : Row) (factors : List (ℤ × ℤ)) (ram : ℤ × ℤ) : Type 0 where
  pub core_factors : (choice : Choice) → IsChoice s grid zones choice → EachLiesAt trillion factors (core_factors_of s row choice)
  pub margin : (choice : Choice) → IsChoice s grid zones choice → LiesAt trillion ram (ram_of_row s row choice)

-- where the spans hold a row, what brackets all fractions in them brackets the row
abbrev pub HeldRowsAreBracketed : GridState → Grid → Type 0
HeldRowsAreBracketed s grid =
    (zones : List KeyedZone) (row : Row) (factors : List (ℤ × ℤ)) (ram : ℤ × ℤ) (bounds : List Bounds) (a : List ℤ) (r_in r_out : ℤ)
    → length bounds ≡ length (filter (λ z. z.is_core) zones)
    → HoldsRow s grid zones row factors ram → Brackets factors ram bounds a r_in r_out
    → IsBracketed s grid zones row bounds a r_in r_out
