-- Compact JSON: no blank stands between its parts. 34 is the quotation mark, 44 the comma and 58 the colon; 91 and 93 are
-- brackets, 123 and 125 braces.
use Rattle.std.specs.Prelude.{ℕ, List, [], ◌∷◌, ◌++◌}
use Rattle.std.specs.List.{join_with_byte}

-- a text that has no character to escape
abbrev pub quoted : List ℕ → List ℕ
quoted text = 34 ∷ (text ++ 34 ∷ [])

abbrev pub member : List ℕ → List ℕ → List ℕ
member name value = quoted name ++ 58 ∷ value

abbrev pub object : List (List ℕ) → List ℕ
object members = 123 ∷ (join_with_byte 44 members ++ 125 ∷ [])

abbrev pub array : List (List ℕ) → List ℕ
array items = 91 ∷ (join_with_byte 44 items ++ 93 ∷ [])
