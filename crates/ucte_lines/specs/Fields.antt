-- The fields of a line in the UCTE data exchange format: a field is what stands in its columns, and a column is a
-- character.
use Rattle.std.specs.Prelude.{ℕ, ℤ, pos, nat_abs, ◌+◌, ◌-◌, ◌^◌, ◌==◌, nat_le, List, ◌++◌, take, drop, length, replicate, Option, Some, None, Result, Ok, Err, if◌then◌else◌}
use Rattle.std.specs.List.{prefix_len, suffix_len}
use Rattle.std.specs.Str.{encode_utf8_all}
use Rattle.fb_decimal.specs.Reading.{decimal_of}
use Rattle.fb_decimal.specs.declared.Decimal.{Decimal}
use Rattle.fb_decimal.specs.declared.DecimalFault.{DecimalFault}
use Rattle.ucte_lines.specs.Lines.{is_blank}

abbrev pub without_leading : List ℕ → List ℕ
without_leading text = drop (prefix_len is_blank text) text

abbrev pub without_trailing : List ℕ → List ℕ
without_trailing text = take (length text - suffix_len is_blank text) text

-- without the blanks at both ends
unfoldable pub trimmed : List ℕ → List ℕ
trimmed text = without_trailing (without_leading text)

-- the columns from the first to the last, counted from 1, without the blanks at both ends; what is beyond the line's end
-- is blank
unfoldable pub field_of : List ℕ → ℕ → ℕ → List ℕ
field_of line first last = trimmed (take (last + 1 - first) (drop (first - 1) line))

-- with blanks behind, up to a width
abbrev pub padded : ℕ → List ℕ → List ℕ
padded width text = text ++ replicate (width - length text) 32

-- ---- numbers, in millionths

-- a value within 10^11
abbrev pub within_range : ℤ → Option ℤ
within_range z = if nat_le (nat_abs z) (10 ^ 17) then Some z else None

abbrev pub value_in : Result Decimal DecimalFault → Option ℤ
value_in (Ok d) = within_range d.millionths
value_in (Err e) = None

-- the number that a field spells
unfoldable pub number_of : List ℕ → Option ℤ
number_of text = value_in (decimal_of (encode_utf8_all text))

-- the same, where blank counts as 0
unfoldable pub number_or_zero : List ℕ → Option ℤ
number_or_zero text = if length text == 0 then Some (pos 0) else number_of text
