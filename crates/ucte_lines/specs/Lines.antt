-- The lines of a file in the UCTE data exchange format.
use Rattle.std.specs.Prelude.{ℕ, ◌-◌, Bool, false, ◌==◌, ◌&&◌, List, [], ◌∷◌, take, drop, length, slice_index, map, if◌then◌else◌}
use Rattle.std.specs.Str.{is_utf8, chars}
use Rattle.std.specs.List.{before_first, list_all}

-- the characters of UTF-8 text, or of ISO 8859-1 where the bytes are no UTF-8
abbrev pub characters_of : List ℕ → List ℕ
characters_of bytes = if is_utf8 bytes then chars bytes else bytes

-- c before the first line
abbrev pub onto_first : ℕ → List (List ℕ) → List (List ℕ)
onto_first c [] = (c ∷ []) ∷ []
onto_first c (line ∷ lines) = (c ∷ line) ∷ lines

-- what stands between line feeds; a last line without one counts if it is not empty
abbrev pub pieces_of : List ℕ → List (List ℕ)
pieces_of [] = []
pieces_of (c ∷ cs) = if c == 10 then [] ∷ pieces_of cs else onto_first c (pieces_of cs)

-- without one carriage return at the end
abbrev pub without_return : List ℕ → List ℕ
without_return line = if slice_index line (length line - 1) == 13 then take (length line - 1) line else line

-- the lines of a text
abbrev pub lines_of : List ℕ → List (List ℕ)
lines_of text = map without_return (pieces_of text)

-- the space alone is blank
abbrev pub is_blank : ℕ → Bool
is_blank c = c == 32

-- blanks alone, or nothing
abbrev pub is_blank_line : List ℕ → Bool
is_blank_line line = list_all is_blank line

-- a line that begins with ##
abbrev pub is_heading : List ℕ → Bool
is_heading [] = false
is_heading (c ∷ []) = false
is_heading (c ∷ d ∷ cs) = (c == 35) && (d == 35)

-- what follows ## up to the first blank
abbrev pub key_of : List ℕ → List ℕ
key_of line = before_first is_blank (drop 2 line)
