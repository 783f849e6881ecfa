-- The text of a decimal number.
use Rattle.std.specs.Prelude.{ℕ, ℤ, pos, negsuc, ◌+◌, ◌-◌, ◌/◌, ◌%◌, ◌^◌, List, ◌∷◌, ◌++◌, length, replicate}
use Rattle.std.specs.Fmt.{decimal}

-- the digits of n, with zeros in front up to so many digits
abbrev pub padded_digits : ℕ → ℕ → List ℕ
padded_digits width n = replicate (width - length (decimal n)) 48 ++ decimal n

-- the whole part, a point and six digits
abbrev pub unsigned_text : ℕ → List ℕ
unsigned_text n = decimal (n / 10 ^ 6) ++ 46 ∷ padded_digits 6 (n % 10 ^ 6)

-- of a number of millionths, with - in front where it is negative
unfoldable pub decimal_text : ℤ → List ℕ
decimal_text (pos n) = unsigned_text n
decimal_text (negsuc n) = 45 ∷ unsigned_text (n + 1)
