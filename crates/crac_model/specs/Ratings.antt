-- What the limits of an element rest on: the currents and the voltages at its two sides. Currents of the document are in
-- millionths of an ampere and voltages in millionths of a kilovolt; currents of the grid are in milliamperes.
use Rattle.std.specs.Prelude.{ℕ, ℤ, pos, nat_abs, ◌*ℤ◌, ◌/◌, ◌==◌, ◌||◌, not, nat_lt, List, [], ◌∷◌, slice_get, slice_index, Option, Some, None, Ok}
use Rattle.std.specs.Option.{option_map, option_map_or}
use Rattle.fb_json.specs.Tree.{decimal_of, length_of}
use Rattle.fb_json.specs.declared.document.Got.{Got}
use Rattle.fb_json.specs.declared.document.Got.TheVariants.{Absent, Wrong, Value}
use Rattle.fb_decimal.specs.declared.Decimal.{Decimal}
use Rattle.fb_types.specs.declared.grid.Node.{Node}
use Rattle.fb_types.specs.declared.grid.Branch.{Branch}
use Rattle.json_reading.specs.Reading.{At, Reading, ◌>>=◌, fault_here, refuse_if, here, spot, array}
use Rattle.crac_model.specs.Words.{is_within}
use Rattle.crac_model.specs.Naming.{NamedGrid}
use Rattle.crac_model.specs.declared.fault.CracKind.{CracKind}
use Rattle.crac_model.specs.declared.fault.CracKind.TheVariants.{WrongType, OutOfRange}
use Rattle.crac_model.specs.declared.ratings.Sides.{Sides}
use Rattle.crac_model.specs.declared.ratings.Side.{Side}
use Rattle.crac_model.specs.declared.ratings.Side.TheVariants.{First, Last}
use Rattle.crac_model.specs.declared.ratings.Ratings.{Ratings}

-- ---- a member that is a number, or an array of one or two numbers, each from low to high

abbrev pub amount_from : ℤ → ℤ → At CracKind → Decimal → Reading CracKind ℤ
amount_from low high at value = do
  fits ← refuse_if (not (is_within low high value.millionths)) (fault_here OutOfRange at)
  Ok value.millionths

unfoldable pub amount_of : ℤ → ℤ → List ℤ → At CracKind → Reading CracKind (Option ℤ)
amount_of low high before at = do
  value ← here decimal_of at
  amount ← amount_from low high at value
  Ok (Some amount)

-- the first and the last of one or two numbers
abbrev pub sides_of : List ℤ → Sides
sides_of [] = record { first = pos 0; last = pos 0 }
sides_of (first ∷ []) = record { first = first; last = first }
sides_of (first ∷ last ∷ more) = record { first = first; last = last }

unfoldable pub amount_list : ℤ → ℤ → At CracKind → Reading CracKind Sides
amount_list low high at = do
  count ← here length_of at
  one_or_two ← refuse_if ((count == 0) || nat_lt 2 count) (fault_here WrongType at)
  amounts ← array (amount_of low high) at
  Ok (sides_of amounts)

abbrev pub amounts_got : ℤ → ℤ → At CracKind → Got Decimal → Reading CracKind Sides
amounts_got low high at (Value value) = do
  amount ← amount_from low high at value
  Ok (record { first = amount; last = amount })
amounts_got low high at Wrong = amount_list low high at
amounts_got low high at Absent = amount_list low high at

unfoldable pub amounts_at : ℤ → ℤ → At CracKind → Reading CracKind Sides
amounts_at low high at = amounts_got low high at (decimal_of at.tree)

abbrev pub amounts_if : ℤ → ℤ → Option (At CracKind) → Reading CracKind (Option Sides)
amounts_if low high None = Ok None
amounts_if low high (Some at) = do
  amounts ← amounts_at low high at
  Ok (Some amounts)

unfoldable pub amounts : ℤ → ℤ → List ℕ → At CracKind → Reading CracKind (Option Sides)
amounts low high name at = do
  found ← spot name at
  amounts_if low high found

-- ---- what the grid says of a branch

-- the voltages of the levels 0 to 9, in volts
abbrev pub level_volts : ℕ → ℕ
level_volts level = slice_index (750000 ∷ 380000 ∷ 220000 ∷ 150000 ∷ 120000 ∷ 110000 ∷ 70000 ∷ 27000 ∷ 330000 ∷ 500000 ∷ []) level

abbrev pub node_volts : List Node → ℕ → ℕ
node_volts nodes place = option_map_or (λ n. level_volts n.level) (slice_get nodes place) 0

-- ---- at one side

abbrev pub at_side : Side → Sides → ℤ
at_side First sides = sides.first
at_side Last sides = sides.last

-- the current limit in millionths of an ampere: the document's, else the grid's, if either gives one
abbrev pub current_at : Ratings → Side → Option ℤ
current_at ratings side = option_map_or (λ sides. Some (at_side side sides)) ratings.currents (option_map (λ current. current *ℤ pos 1000) ratings.current)

abbrev pub node_volts_at : Ratings → Side → ℕ
node_volts_at ratings First = ratings.first_volts
node_volts_at ratings Last = ratings.last_volts

-- the voltage in volts: the document's, else that of the node's level
abbrev pub volts_at : Ratings → Side → ℕ
volts_at ratings side = option_map_or (λ sides. nat_abs (at_side side sides) / 1000) ratings.voltages (node_volts_at ratings side)

abbrev pub ratings_of : List Node → Option Sides → Option Sides → Option Branch → Ratings
ratings_of nodes currents voltages None = record { currents = currents; voltages = voltages; current = None; first_volts = 0; last_volts = 0 }
ratings_of nodes currents voltages (Some branch) = record { currents = currents; voltages = voltages; current = branch.current; first_volts = node_volts nodes branch.from; last_volts = node_volts nodes branch.to }

-- the ratings of the branch at a place of the grid
abbrev pub ratings_at : NamedGrid → ℕ → Option Sides → Option Sides → Ratings
ratings_at grid place currents voltages = ratings_of grid.nodes currents voltages (slice_get grid.branches place)
