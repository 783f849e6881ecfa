-- The pieces of a text that is a spelling, as functions of the text. Nobody need believe this: it is tied to the value of
-- the spelling by a lemma.
use Rattle.std.specs.Prelude.{◌≡◌, ℕ, ℤ, pos, neg_ℤ, ◌+◌, ◌-◌, ◌*◌, ◌/◌, ◌^◌, ◌<◌, ◌≤◌, Bool, ◌==◌, List, take, length, filter, slice_index, if◌then◌else◌, Option, MatchOption}
use Rattle.std.specs.List.{before_first, after_first}
use Rattle.std.specs.Char.{is_ascii_digit}
use Rattle.std.specs.Str.Parse.{digits_value}
use Rattle.fb_decimal.specs.Spelling.{is_point, is_mark}

abbrev pub digits : List ℕ → List ℕ
digits text = filter is_ascii_digit text

-- the digits as one whole number
abbrev pub number : List ℕ → ℕ
number text = digits_value 10 (digits text)

-- what stands before e or E
abbrev pub mantissa : List ℕ → List ℕ
mantissa text = before_first is_mark text

-- what stands behind e or E
abbrev pub exponent : List ℕ → List ℕ
exponent text = after_first is_mark text

abbrev pub begins_with_minus : List ℕ → Bool
begins_with_minus text = slice_index text 0 == 45

-- how many digits stand behind the point
abbrev pub places : List ℕ → ℕ
places text = length (digits (after_first is_point text))

-- n with so many places behind the point, times ten to the power, in millionths, without what is left of one
abbrev pub scaled : ℕ → ℕ → Bool → ℕ → ℕ
scaled n places negative power = if negative then n * 10 ^ 6 / 10 ^ (places + power) else n * 10 ^ (6 + power) / 10 ^ places

-- how many of n digits, of which places stand behind the point, the value has before its point
abbrev pub kept_digits : ℕ → ℕ → Bool → ℕ → ℕ
kept_digits n places negative power = if negative then n + 6 - (places + power) else n + 6 + power - places

-- so many digits from the front, and zeros where there are no more
abbrev pub from_front : List ℕ → ℕ → ℕ
from_front ds kept = digits_value 10 (take kept ds) * 10 ^ (kept - length ds)

-- the number, or nothing where it is past the limit
abbrev pub IsCapped : ℕ → ℕ → Option ℕ → Type 0
IsCapped limit n r = MatchOption r (limit < n) (λ v. (v ≡ n) × (v ≤ limit))

-- the absolute value in millionths, rounded towards 0
unfoldable pub magnitude_in : List ℕ → ℕ
magnitude_in text = scaled (number (mantissa text)) (places (mantissa text)) (begins_with_minus (exponent text)) (number (exponent text))

abbrev pub value_in : List ℕ → ℤ
value_in text = if begins_with_minus text then neg_ℤ (pos (magnitude_in text)) else pos (magnitude_in text)
