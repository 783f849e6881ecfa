-- A number of JSON (RFC 8259, section 6): an optional minus; 0, or a digit from 1 to 9 and further digits; optionally a
-- point and digits; optionally e or E, an optional sign and digits.
use Rattle.std.specs.Prelude.{◌≡◌, ◌⊎◌, ℕ, ◌<◌, true, List, [], ◌∷◌, ◌++◌, length}
use Rattle.fb_decimal.specs.Spelling.{is_point, AreDigits, IsExponent}

-- - or nothing
abbrev pub IsMinus : List ℕ → Type 0
IsMinus text = (text ≡ []) ⊎ (text ≡ 45 ∷ [])

-- at least one digit, and none behind a leading 0
abbrev pub IsWhole : List ℕ → Type 0
IsWhole [] = ⊥
IsWhole (c ∷ cs) = AreDigits (c ∷ cs) × (c ≡ 48 → cs ≡ [])

-- a point and at least one digit, or nothing
abbrev pub IsFraction : List ℕ → Type 0
IsFraction [] = Unit {0}
IsFraction (c ∷ cs) = (is_point c ≡ true) × AreDigits cs × (0 < length cs)

pub record IsNumber (text : List ℕ) : Type 0 where
  pub minus : List ℕ
  pub whole : List ℕ
  pub fraction : List ℕ
  pub exponent : List ℕ
  pub is_minus : IsMinus minus
  pub is_whole : IsWhole whole
  pub is_fraction : IsFraction fraction
  pub is_exponent : IsExponent exponent
  pub parts : text ≡ minus ++ (whole ++ (fraction ++ exponent))
