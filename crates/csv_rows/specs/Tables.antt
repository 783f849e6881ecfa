-- The text of a table: its records, each a list of fields.
use Rattle.std.specs.Prelude.{ℕ, List, [], ◌∷◌, ◌++◌}
use Rattle.csv.specs.Writing.{row_text, default_writer}

-- the text of one record, with its line feed
abbrev pub record_text : List (List ℕ) → List ℕ
record_text fields = row_text default_writer fields

abbrev pub table_text : List (List (List ℕ)) → List ℕ
table_text [] = []
table_text (r ∷ rs) = record_text r ++ table_text rs
