-- How a decimal number is spelled. A text is its bytes; every spelling is ASCII, so that up to the first byte that goes
-- on no spelling a place counts characters as well as bytes.
use Rattle.std.specs.Prelude.{◌≡◌, ◌⊎◌, ℕ, ◌+◌, ◌<◌, ◌≤◌, Bool, true, ◌==◌, ◌||◌, List, [], ◌∷◌, ◌++◌, take, length}
use Rattle.std.specs.List.{AllByRecursion}
use Rattle.std.specs.Char.{is_ascii_digit}

-- + or -
abbrev pub is_sign : ℕ → Bool
is_sign c = (c == 43) || (c == 45)

abbrev pub is_point : ℕ → Bool
is_point c = c == 46

-- e or E
abbrev pub is_mark : ℕ → Bool
is_mark c = (c == 101) || (c == 69)

abbrev pub AreDigits : List ℕ → Type 0
AreDigits ds = AllByRecursion (λ c. is_ascii_digit c ≡ true) ds

-- an optional + or -
abbrev pub IsSign : List ℕ → Type 0
IsSign [] = Unit {0}
IsSign (c ∷ []) = is_sign c ≡ true
IsSign (c ∷ d ∷ cs) = ⊥

-- a point and further digits, or nothing
abbrev pub IsFraction : List ℕ → Type 0
IsFraction [] = Unit {0}
IsFraction (c ∷ cs) = (is_point c ≡ true) × AreDigits cs

-- e or E, an optional sign and digits
pub record IsPower (mark : ℕ) (text : List ℕ) : Type 0 where
  pub is_mark : is_mark mark ≡ true
  pub sign : List ℕ
  pub digits : List ℕ
  pub is_sign : IsSign sign
  pub are_digits : AreDigits digits
  pub some_digit : 0 < length digits
  pub parts : text ≡ sign ++ digits

-- the same, or nothing
abbrev pub IsExponent : List ℕ → Type 0
IsExponent [] = Unit {0}
IsExponent (c ∷ cs) = IsPower c cs

-- an optional + or -; then digits with an optional point and further digits, or a point and at least one digit; then
-- optionally e or E, an optional sign and digits
pub record IsSpelling (text : List ℕ) : Type 0 where
  pub sign : List ℕ
  pub whole : List ℕ
  pub fraction : List ℕ
  pub exponent : List ℕ
  pub is_sign : IsSign sign
  pub are_digits : AreDigits whole
  pub is_fraction : IsFraction fraction
  -- a fraction has its point beside its digits
  pub some_digit : (0 < length whole) ⊎ (1 < length fraction)
  pub is_exponent : IsExponent exponent
  pub parts : text ≡ sign ++ (whole ++ (fraction ++ exponent))

-- some spelling begins with the text
abbrev pub BeginsSpelling : List ℕ → Type 0
BeginsSpelling text = (more : List ℕ) × IsSpelling (text ++ more)

-- the text is no spelling, and this is the least place where no spelling begins with the text up to and with the
-- character there, or the text's length where the text is the front of a spelling
pub record IsFirstBad (text : List ℕ) (at : ℕ) : Type 0 where
  pub fine : BeginsSpelling (take at text)
  pub bad : at < length text → BeginsSpelling (take (at + 1) text) → ⊥
  pub none : IsSpelling text → ⊥
  pub within : at ≤ length text
