-- What a spelling is worth.
use Rattle.std.specs.Prelude.{ℕ, ℤ, pos, negsuc, neg_ℤ, ◌+◌, ◌*◌, ◌/◌, ◌^◌, Bool, false, ◌==◌, List, [], ◌∷◌, ◌++◌, drop, length, if◌then◌else◌}
use Rattle.std.specs.Str.Parse.{digits_value}
use Rattle.fb_decimal.specs.Spelling.{IsSpelling, IsExponent}

-- the sign is -
abbrev pub is_minus : List ℕ → Bool
is_minus [] = false
is_minus (c ∷ cs) = c == 45

-- n with that sign
abbrev pub signed : List ℕ → ℕ → ℤ
signed sign n = if is_minus sign then neg_ℤ (pos n) else pos n

-- the digits before and behind the point as one whole number
abbrev pub number_of : {text : List ℕ} → IsSpelling text → ℕ
number_of s = digits_value 10 (s.whole ++ drop 1 s.fraction)

-- how many digits stand behind the point
abbrev pub places_of : {text : List ℕ} → IsSpelling text → ℕ
places_of s = length (drop 1 s.fraction)

-- the number behind e or E, and 0 where there is none
abbrev pub power_of : (exponent : List ℕ) → IsExponent exponent → ℤ
power_of [] none = pos 0
power_of (mark ∷ rest) power = signed power.sign (digits_value 10 power.digits)

-- ten to a power is the fraction raised / lowered
abbrev pub raised : ℤ → ℕ
raised (pos k) = 10 ^ k
raised (negsuc k) = 1

abbrev pub lowered : ℤ → ℕ
lowered (pos k) = 1
lowered (negsuc k) = 10 ^ (k + 1)

-- the absolute value is the fraction numerator_of / denominator_of
abbrev pub numerator_of : {text : List ℕ} → IsSpelling text → ℕ
numerator_of s = number_of s * raised (power_of s.exponent s.is_exponent)

abbrev pub denominator_of : {text : List ℕ} → IsSpelling text → ℕ
denominator_of s = 10 ^ places_of s * lowered (power_of s.exponent s.is_exponent)

-- the absolute value in millionths, rounded towards 0
unfoldable pub magnitude_of : {text : List ℕ} → IsSpelling text → ℕ
magnitude_of s = 10 ^ 6 * numerator_of s / denominator_of s

-- the value in millionths, rounded towards 0
abbrev pub value_of : {text : List ℕ} → IsSpelling text → ℤ
value_of s = signed s.sign (magnitude_of s)

-- the greatest absolute value that is read, in millionths
abbrev pub greatest : ℕ
greatest = 10 ^ 30
