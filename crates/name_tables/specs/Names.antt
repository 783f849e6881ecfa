-- Lists of names, and what stands beside names. A name is its bytes.
use Rattle.std.specs.Prelude.{ℕ, ◌+◌, Bool, List, [], ◌∷◌, Option}
use Rattle.std.specs.List.{list_any}
use Rattle.std.specs.Map.{lookup}
use Rattle.std.specs.Str.{bytes_eq}

-- one of these names
abbrev pub is_among : List (List ℕ) → List ℕ → Bool
is_among names name = list_any (λ n. bytes_eq name n) names

-- what stands beside the first entry of this name
abbrev pub value_at : {V : Type 0} → List (List ℕ × V) → List ℕ → Option V
value_at entries name = lookup (λ n. bytes_eq name n) entries

-- names with their places, which go on from n
abbrev pub numbered_from : ℕ → List (List ℕ) → List (List ℕ × ℕ)
numbered_from n [] = []
numbered_from n (name ∷ names) = (name, n) ∷ numbered_from (n + 1) names
