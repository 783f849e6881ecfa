-- Going over a run once, from part to part of a number. Nobody need believe this: the contract of `is_number` ties it to the
-- grammar.
use Rattle.std.specs.Prelude.{ℕ, ◌==◌, Bool, true, false, List, [], ◌∷◌, if◌then◌else◌, Option, Some, None}
use Rattle.std.specs.Option.{option_map_or}
use Rattle.std.specs.Char.{is_ascii_digit}
use Rattle.fb_decimal.specs.Spelling.{is_sign, is_point, is_mark}
use Rattle.fb_json.specs.declared.number.Part.{Part}
use Rattle.fb_json.specs.declared.number.Part.TheVariants.{Start, Minus, Zero, Whole, Point, Fraction, Mark, MarkSigned, Exponent}

-- the part after one more byte
abbrev pub part_after : Part → ℕ → Option Part
part_after Start c = if c == 45 then Some Minus else (if c == 48 then Some Zero else (if is_ascii_digit c then Some Whole else None))
part_after Minus c = if c == 48 then Some Zero else (if is_ascii_digit c then Some Whole else None)
part_after Zero c = if is_point c then Some Point else (if is_mark c then Some Mark else None)
part_after Whole c = if is_ascii_digit c then Some Whole else (if is_point c then Some Point else (if is_mark c then Some Mark else None))
part_after Point c = if is_ascii_digit c then Some Fraction else None
part_after Fraction c = if is_ascii_digit c then Some Fraction else (if is_mark c then Some Mark else None)
part_after Mark c = if is_ascii_digit c then Some Exponent else (if is_sign c then Some MarkSigned else None)
part_after MarkSigned c = if is_ascii_digit c then Some Exponent else None
part_after Exponent c = if is_ascii_digit c then Some Exponent else None

-- a number may end in the part
abbrev pub is_end : Part → Bool
is_end Start = false
is_end Minus = false
is_end Zero = true
is_end Whole = true
is_end Point = false
is_end Fraction = true
is_end Mark = false
is_end MarkSigned = false
is_end Exponent = true

-- a number that has come to the part may end with these bytes
abbrev pub goes_on : Part → List ℕ → Bool
goes_on part [] = is_end part
goes_on part (c ∷ cs) = option_map_or (λ next. goes_on next cs) (part_after part c) false

abbrev pub is_number : List ℕ → Bool
is_number run = goes_on Start run
