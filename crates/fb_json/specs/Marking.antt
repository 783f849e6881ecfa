-- Marked JSON: each number becomes a text that begins with n, and each other text begins with s, so that numbers stay as
-- they are spelled. A document is cut from the front into strings, number runs and other bytes.
use Rattle.std.specs.Prelude.{◌≡◌, ◌≢◌, ◌⊎◌, ℕ, ◌==◌, ◌||◌, Bool, true, false, List, [], ◌∷◌, ◌++◌, take, drop, if◌then◌else◌}
use Rattle.std.specs.List.{AllByRecursion}
use Rattle.std.specs.Char.{is_ascii_digit}
use Rattle.std.specs.Str.{bytes_eq}
use Rattle.fb_decimal.specs.Spelling.{is_sign, is_point, is_mark}
use Rattle.fb_json.specs.Number.{IsNumber}

abbrev pub quote : ℕ
quote = 34

abbrev pub backslash : ℕ
backslash = 92

-- s, in front of a text
abbrev pub text_mark : ℕ
text_mark = 115

-- n, in front of a number
abbrev pub number_mark : ℕ
number_mark = 110

-- !, for a run that is no number
abbrev pub no_number_mark : ℕ
no_number_mark = 33

-- ---- strings

-- what stands between a string's quotation marks: a backslash escapes the byte after it
pub data IsBody : List ℕ → Type 0 where
  nothing : IsBody []
  plain : (c : ℕ) (rest : List ℕ) → c ≢ quote → c ≢ backslash → IsBody rest → IsBody (c ∷ rest)
  escape : (c : ℕ) (rest : List ℕ) → IsBody rest → IsBody (backslash ∷ c ∷ rest)

-- what stands in a string that the document's end cuts off, where a last backslash may have nothing to escape
abbrev pub IsCutBody : List ℕ → Type 0
IsCutBody body = IsBody body ⊎ ((front : List ℕ) × IsBody front × (body ≡ front ++ backslash ∷ []))

-- ---- number runs

-- a digit, +, -, ., e or E
abbrev pub is_of_run : ℕ → Bool
is_of_run c = is_ascii_digit c || (is_sign c || (is_point c || is_mark c))

-- a digit or -
abbrev pub begins_run : ℕ → Bool
begins_run c = is_ascii_digit c || c == 45

-- the first byte passes the test
abbrev pub begins_with : (ℕ → Bool) → List ℕ → Bool
begins_with test [] = false
begins_with test (c ∷ cs) = test c

-- a longest run, before what follows
pub record IsRun (run rest : List ℕ) : Type 0 where
  pub begins : begins_with begins_run run ≡ true
  pub are_of_run : AllByRecursion (λ c. is_of_run c ≡ true) run
  pub longest : begins_with is_of_run rest ≡ false

-- ---- documents

-- what the bytes become, from the front: a string has s behind its opening quotation mark, a run that is a number stands in
-- quotation marks behind n, any other run is !, all else stays
pub data Marks : List ℕ → List ℕ → Type 0 where
  nothing_left : Marks [] []
  text : (body rest marked : List ℕ) → IsBody body → Marks rest marked → Marks (quote ∷ body ++ quote ∷ rest) (quote ∷ text_mark ∷ body ++ quote ∷ marked)
  cut_text : (body : List ℕ) → IsCutBody body → Marks (quote ∷ body) (quote ∷ text_mark ∷ body)
  number : (run rest marked : List ℕ) → IsRun run rest → IsNumber run → Marks rest marked → Marks (run ++ rest) (quote ∷ number_mark ∷ run ++ quote ∷ marked)
  no_number : (run rest marked : List ℕ) → IsRun run rest → (IsNumber run → ⊥) → Marks rest marked → Marks (run ++ rest) (no_number_mark ∷ marked)
  other : (c : ℕ) (rest marked : List ℕ) → begins_run c ≡ false → c ≢ quote → Marks rest marked → Marks (c ∷ rest) (c ∷ marked)

-- U+FEFF in UTF-8
abbrev pub byte_order_mark : List ℕ
byte_order_mark = 239 ∷ 187 ∷ 191 ∷ []

abbrev pub without_byte_order_mark : List ℕ → List ℕ
without_byte_order_mark bytes = if bytes_eq (take 3 bytes) byte_order_mark then drop 3 bytes else bytes

-- the marked bytes of a document
abbrev pub IsMarked : List ℕ → List ℕ → Type 0
IsMarked bytes marked = Marks (without_byte_order_mark bytes) marked
