-- Going over a text once, from part to part. Nobody need believe this: it is tied to the grammar by a lemma.
use Rattle.std.specs.Prelude.{ℕ, ◌+◌, Bool, true, false, List, [], ◌∷◌, if◌then◌else◌, Option, Some, None}
use Rattle.std.specs.Option.{option_map_or}
use Rattle.std.specs.Char.{is_ascii_digit}
use Rattle.fb_decimal.specs.Spelling.{is_sign, is_point, is_mark}
use Rattle.fb_decimal.specs.declared.scan.Part.{Part}
use Rattle.fb_decimal.specs.declared.scan.Part.TheVariants.{Start, Signed, Whole, Point, Fraction, Mark, MarkSigned, Exponent}

-- the part after one more character
abbrev pub part_after : Part → ℕ → Option Part
part_after Start c = if is_ascii_digit c then Some Whole else (if is_point c then Some Point else (if is_sign c then Some Signed else None))
part_after Signed c = if is_ascii_digit c then Some Whole else (if is_point c then Some Point else None)
part_after Whole c = if is_ascii_digit c then Some Whole else (if is_point c then Some Fraction else (if is_mark c then Some Mark else None))
part_after Point c = if is_ascii_digit c then Some Fraction else None
part_after Fraction c = if is_ascii_digit c then Some Fraction else (if is_mark c then Some Mark else None)
part_after Mark c = if is_ascii_digit c then Some Exponent else (if is_sign c then Some MarkSigned else None)
part_after MarkSigned c = if is_ascii_digit c then Some Exponent else None
part_after Exponent c = if is_ascii_digit c then Some Exponent else None

-- a spelling may end in the part
abbrev pub is_end : Part → Bool
is_end Start = false
is_end Signed = false
is_end Whole = true
is_end Point = false
is_end Fraction = true
is_end Mark = false
is_end MarkSigned = false
is_end Exponent = true

-- the place of the first character that goes on no spelling, where the text is none
abbrev pub bad_from : Part → ℕ → List ℕ → Option ℕ
bad_from part at [] = if is_end part then None else Some at
bad_from part at (c ∷ cs) = option_map_or (λ next. bad_from next (at + 1) cs) (part_after part c) (Some at)
