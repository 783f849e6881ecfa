-- What a reductions document says of the elements of a CRAC, or its first fault. Its rows are the records of the CSV text,
-- counted from 1: row 1 is the header, each further row a record.
use Rattle.std.specs.Prelude.{ℕ, ℤ, pos, ◌==◌, ◌&&◌, ◌^◌, Bool, true, false, not, List, [], ◌∷◌, length, map, drop, Option, Some, None, Result, Ok, Err, is_some, is_none, unwrap_or, codes, slice_get, int_le, if◌then◌else◌}
use Rattle.std.specs.Bool.{beq}
use Rattle.std.specs.List.{filter}
use Rattle.std.specs.Str.{bytes_eq, is_utf8}
use Rattle.csv.specs.Records.{field_at}
use Rattle.csv_rows.specs.Rows.{records_in}
use Rattle.fb_decimal.specs.Reading.{decimal_of}
use Rattle.fb_decimal.specs.declared.Decimal.{Decimal}
use Rattle.fb_decimal.specs.declared.DecimalFault.{DecimalFault}
use Rattle.fb_types.specs.declared.crac.Element.{Element}
use Rattle.first_fault.specs.Checks.{first_failing}
use Rattle.first_fault.specs.FirstFault.{IsFirstFault, HasNoFault}
use Rattle.name_tables.specs.Names.{is_among, value_at, numbered_from}
use Rattle.run_settings.specs.declared.named.Named.{Named}
use Rattle.run_settings.specs.declared.reduction.Reduction.{Reduction}
use Rattle.run_settings.specs.declared.reduction.ReductionKind.{ReductionKind}
use Rattle.run_settings.specs.declared.reduction.ReductionKind.TheVariants.{Missing, WrongType, UnknownElement, OutOfRange, Twice}

-- the fields of a row, each its bytes
abbrev pub Row : Type 0
Row = List (List ℕ)

-- the field at a place, counted from 0; a row that lacks it has an empty one
abbrev pub field_in : ℕ → Row → List ℕ
field_in place row = unwrap_or (field_at row place) []

-- ---- what the fields say

abbrev pub are_text : Row → Bool
are_text row = is_utf8 (field_in 0 row) && is_utf8 (field_in 1 row) && is_utf8 (field_in 2 row) && is_utf8 (field_in 3 row)

-- whether a direction is OPPOSITE
abbrev pub direction_named : List ℕ → Option Bool
direction_named word = if bytes_eq word (codes "DIRECT") then Some false else (if bytes_eq word (codes "OPPOSITE") then Some true else None)

abbrev pub direction_in : Row → Option Bool
direction_in row = direction_named (field_in 1 row)

abbrev pub is_opposite : Row → Bool
is_opposite row = unwrap_or (direction_in row) false

-- a number of megawatts, cut to whole watts
abbrev pub watts_read : Result Decimal DecimalFault → Option ℤ
watts_read (Ok megawatts) = Some megawatts.millionths
watts_read (Err e) = None

abbrev pub watts_in : ℕ → Row → Option ℤ
watts_in place row = watts_read (decimal_of (field_in place row))

-- the two reductions
abbrev pub cva_in : Row → ℤ
cva_in row = unwrap_or (watts_in 2 row) (pos 0)

abbrev pub iva_in : Row → ℤ
iva_in row = unwrap_or (watts_in 3 row) (pos 0)

-- ---- elements

abbrev pub element_ids : List Element → List (List ℕ)
element_ids elements = map (λ element. element.id) elements

-- the limit of an element in a direction
abbrev pub limit_in : Bool → Element → Option ℤ
limit_in false element = element.direct
limit_in true element = element.opposite

abbrev pub is_limited : Bool → Option Element → Bool
is_limited opposite None = false
is_limited opposite (Some element) = is_some (limit_in opposite element)

abbrev pub limited_at : List Element → Bool → Option ℕ → Option ℕ
limited_at elements opposite None = None
limited_at elements opposite (Some place) = if is_limited opposite (slice_get elements place) then Some place else None

-- the place of the first element of an id, if it is limited in the direction
unfoldable pub element_named : List Element → List ℕ → Bool → Option ℕ
element_named elements id opposite = limited_at elements opposite (value_at (numbered_from 0 (element_ids elements)) id)

abbrev pub element_in : List Element → Row → Option ℕ
element_in elements row = element_named elements (field_in 0 row) (is_opposite row)

-- ---- checks

-- four texts, a direction, and two numbers
abbrev pub is_formed : Row → Bool
is_formed row = are_text row && (is_some (direction_in row) && (is_some (watts_in 2 row) && is_some (watts_in 3 row)))

-- from 0 to 10^11 W
abbrev pub is_amount : ℤ → Bool
is_amount watts = int_le (pos 0) watts && int_le watts (pos (10 ^ 11))

-- the ids that records name, in each direction
abbrev pub ids_in : Bool → List Row → List (List ℕ)
ids_in opposite rows = map (field_in 0) (filter (λ row. beq (is_opposite row) opposite) rows)

abbrev pub named_by : List Row → Named
named_by rows = record { direct = ids_in false rows; opposite = ids_in true rows }

abbrev pub names_in : Bool → Named → List (List ℕ)
names_in false named = named.direct
names_in true named = named.opposite

-- the fault of a record, where earlier records name these
unfoldable pub record_fault : List Element → Named → Row → Option ReductionKind
record_fault elements named row = first_failing (
    (not (length row == 4), Missing)
    ∷ (not (is_formed row), WrongType)
    ∷ (is_none (element_in elements row), UnknownElement)
    ∷ (not (is_amount (cva_in row) && is_amount (iva_in row)), OutOfRange)
    ∷ (is_among (names_in (is_opposite row) named) (field_in 0 row), Twice)
    ∷ [])

-- the reduction of a record without a fault: of such a record no default below is used
unfoldable pub reduction_in : List Element → Row → Reduction
reduction_in elements row = record {
  element = unwrap_or (element_in elements row) 0;
  opposite = is_opposite row;
  cva = cva_in row;
  iva = iva_in row;
}

-- ---- the document

unfoldable pub is_header : Row → Bool
is_header row = (length row == 4) && (bytes_eq (field_in 0 row) (codes "element") && (bytes_eq (field_in 1 row) (codes "direction")
    && (bytes_eq (field_in 2 row) (codes "cva") && bytes_eq (field_in 3 row) (codes "iva"))))

-- the fault of a row, after the rows before it
abbrev pub row_fault : List Element → List Row → Row → Option ReductionKind
row_fault elements [] row = if is_header row then None else Some WrongType
row_fault elements (header ∷ records) row = record_fault elements (named_by records) row

-- the rows of a document; an empty one has one row without fields
abbrev pub some_rows : List Row → List Row
some_rows [] = [] ∷ []
some_rows (row ∷ rows) = row ∷ rows

abbrev pub document_rows : List ℕ → List Row
document_rows bytes = some_rows (records_in bytes)

-- the first fault, with the row's number
abbrev pub IsReductionFault : List Element → List ℕ → ℕ → ReductionKind → Type 0
IsReductionFault elements bytes row kind = IsFirstFault (row_fault elements) (document_rows bytes) row kind

abbrev pub HasNoReductionFault : List Element → List ℕ → Type 0
HasNoReductionFault elements bytes = HasNoFault (row_fault elements) (document_rows bytes)

-- the reductions of the records after the header
abbrev pub reductions_of : List Element → List ℕ → List Reduction
reductions_of elements bytes = map (reduction_in elements) (drop 1 (records_in bytes))
