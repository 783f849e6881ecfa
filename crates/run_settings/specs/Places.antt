-- Tables of places by names. Nobody need believe these words: they are of invariants and of private contracts.
use Rattle.std.specs.Prelude.{◌≡◌, ℕ, List, ◌++◌}
use Rattle.name_tables.specs.Names.{value_at, numbered_from}

-- the table has the places of these names
pub record ArePlaces (places : List (List ℕ × ℕ)) (names : List (List ℕ)) : Type 0 where
  pub each : (name : List ℕ) → value_at places name ≡ value_at (numbered_from 0 names) name

-- the table, with the names that are left, which go on from a place, has the places of all names
pub record WillBePlaces (places : List (List ℕ × ℕ)) (place : ℕ) (left names : List (List ℕ)) : Type 0 where
  pub each : (name : List ℕ) → value_at (places ++ numbered_from place left) name ≡ value_at (numbered_from 0 names) name
