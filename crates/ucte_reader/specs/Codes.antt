-- Node codes and the ids of branches. A text is its bytes in UTF-8.
use Rattle.std.specs.Prelude.{ℕ, ◌-◌, Bool, ◌&&◌, nat_le, List, ◌∷◌, ◌++◌, length, slice_index}
use Rattle.std.specs.Char.{is_ascii_digit}
use Rattle.std.specs.Str.{encode_utf8_all}
use Rattle.ucte_lines.specs.Fields.{field_of, padded}

-- the code of a node, and of the first node of a branch
abbrev pub first_code : List ℕ → List ℕ
first_code line = field_of line 1 8

-- the code of the second node of a branch
abbrev pub second_code : List ℕ → List ℕ
second_code line = field_of line 10 17

abbrev pub order_code : List ℕ → List ℕ
order_code line = field_of line 19 19

-- at least 7 characters, of which the seventh is a digit: the level of the voltage
unfoldable pub is_code : List ℕ → Bool
is_code code = nat_le 7 (length code) && is_ascii_digit (slice_index code 6)

unfoldable pub level_of : List ℕ → ℕ
level_of code = slice_index code 6 - 48

-- a code with 8 characters
unfoldable pub code_text : List ℕ → List ℕ
code_text code = encode_utf8_all (padded 8 code)

-- the id of a branch: code, blank, code, blank, order code
unfoldable pub id_text : List ℕ → List ℕ
id_text line = encode_utf8_all (padded 8 (first_code line) ++ 32 ∷ (padded 8 (second_code line) ++ 32 ∷ padded 1 (order_code line)))
