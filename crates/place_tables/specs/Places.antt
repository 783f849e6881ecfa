-- Where in a list numbers first stand. Places are counted from 0.
use Rattle.std.specs.Prelude.{ℕ, ◌==◌, List, map, Option}
use Rattle.std.specs.List.{position_from, range_with_len}

-- the place at which a number first stands
abbrev pub first_place : List ℕ → ℕ → Option ℕ
first_place numbers n = position_from (λ m. m == n) 0 numbers

-- the place of each number below a count
abbrev pub first_places : ℕ → List ℕ → List (Option ℕ)
first_places count numbers = map (first_place numbers) (range_with_len 0 count)
