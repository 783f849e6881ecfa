-- The rows of a CRAC, the grid states that they are monitored in, and what is stated of each row.
use Rattle.std.specs.Prelude.{ℕ, suc, ◌==◌, ◌&&◌, ℤ, pos, Bool, true, false, not, List, [], ◌∷◌, ◌++◌, length, map, filter, Option, Some, None, slice_get, unwrap_or}
use Rattle.std.specs.Bool.{beq}
use Rattle.std.specs.List.{find, flat_map, list_any, enumerate_from, range_with_len, position_from}
use Rattle.std.specs.Option.{option_map_or}
use Rattle.fb_types.specs.declared.crac.Contingency.{Contingency}
use Rattle.fb_types.specs.declared.crac.Element.{Element}
use Rattle.fb_types.specs.declared.crac.Crac.{Crac}
use Rattle.run_settings.specs.declared.model.Settings.{Settings}
use Rattle.run_settings.specs.declared.reduction.Reduction.{Reduction}
use Rattle.cnec_rows.specs.declared.types.RowTerms.{RowTerms}

-- ---- Rows

-- a row: a monitored element, with its place in the list, in one direction, with its limit there in watts
pub record CracRow : Type 0 where
  pub place : ℕ
  pub element : Element
  pub opposite : Bool
  pub limit : ℤ

-- the row of an element in a direction, if it has a limit there
abbrev pub row_if : ℕ × Element → Bool → Option ℤ → List CracRow
row_if e opposite None = []
row_if e opposite (Some limit) = record { place = e.0; element = e.1; opposite = opposite; limit = limit } ∷ []

-- the rows of an element, with its place: DIRECT before OPPOSITE
abbrev pub rows_of_element : ℕ × Element → List CracRow
rows_of_element e = row_if e false e.1.direct ++ row_if e true e.1.opposite

-- all rows, element by element. They are numbered from 1
abbrev pub crac_rows : List Element → List CracRow
crac_rows elements = flat_map rows_of_element (enumerate_from 0 elements)

-- ---- Grid states

-- an element names the contingency
abbrev pub names : ℕ → Element → Bool
names k element = option_map_or (λ named. named == k) element.contingency false

-- the contingencies that some element names, in the order of the list
abbrev pub outages_of : Crac → List ℕ
outages_of crac = filter (λ k. list_any (names k) crac.elements) (range_with_len 0 (length crac.contingencies))

-- the branches that a contingency takes out
abbrev pub branches_out : List Contingency → ℕ → List ℕ
branches_out contingencies k = option_map_or (λ c. c.branches) (slice_get contingencies k) []

-- the branches that are out in each state: none in the base state
abbrev pub out_by_state : Crac → List ℕ → List (List ℕ)
out_by_state crac outages = [] ∷ map (branches_out crac.contingencies) outages

-- the number of the state that a row is monitored in: 0 for the base state
abbrev pub state_number : List ℕ → Option ℕ → ℕ
state_number outages None = 0
state_number outages (Some k) = suc (unwrap_or (position_from (λ outage. outage == k) 0 outages) 0)

abbrev pub state_of_row : List ℕ → CracRow → ℕ
state_of_row outages row = state_number outages row.element.contingency

-- ---- What is stated of a row

-- the reduction of a row, if there is one
abbrev pub is_for : CracRow → Reduction → Bool
is_for row reduction = (reduction.element == row.place) && beq reduction.opposite row.opposite

abbrev pub reduction_for : List Reduction → CracRow → Option Reduction
reduction_for reductions row = find (is_for row) reductions

-- A row runs against its branch where it is OPPOSITE or the element is turned, but not where it is both.
abbrev pub is_against : CracRow → Bool
is_against row = not (beq row.opposite row.element.turned)

abbrev pub terms_of : Settings → List Reduction → CracRow → RowTerms
terms_of settings reductions row = record {
  branch = row.element.branch;
  against = is_against row;
  limit = row.limit;
  margin = row.element.margin;
  cva = option_map_or (λ r. r.cva) (reduction_for reductions row) (pos 0);
  iva = option_map_or (λ r. r.iva) (reduction_for reductions row) (pos 0);
  ramr = settings.ramr;
  threshold = settings.threshold;
}
