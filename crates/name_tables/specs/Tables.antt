-- Tables of names, after one more entry.
use Rattle.std.specs.Prelude.{ℕ, List, [], ◌∷◌, ◌++◌, is_some, if◌then◌else◌}
use Rattle.name_tables.specs.Names.{is_among}
use Rattle.name_tables.specs.Names.{value_at}

-- the names with one more, each once
abbrev pub with_name : List (List ℕ) → List ℕ → List (List ℕ)
with_name names name = if is_among names name then names else names ++ name ∷ []

-- the entries with one more, where the first of a name counts
abbrev pub with_entry : {V : Type 0} → List (List ℕ × V) → List ℕ → V → List (List ℕ × V)
with_entry entries name value = if is_some (value_at entries name) then entries else entries ++ (name, value) ∷ []

-- the same with each of these
abbrev pub with_names : List (List ℕ) → List (List ℕ) → List (List ℕ)
with_names names [] = names
with_names names (more ∷ rest) = with_names (with_name names more) rest

abbrev pub with_entries : {V : Type 0} → List (List ℕ × V) → List (List ℕ × V) → List (List ℕ × V)
with_entries entries [] = entries
with_entries entries (more ∷ rest) = with_entries (with_entry entries more.0 more.1) rest
