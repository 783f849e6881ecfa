-- Lists in groups by number. Groups are numbered from 0.
use Rattle.std.specs.Prelude.{◌≡◌, ℕ, ◌<◌, ◌==◌, List, [], length, map, filter, slice_index_or}
use Rattle.std.specs.List.{zip}

-- the items that stand beside a number, in order
abbrev pub beside : {A : Type 0} → ℕ → List ℕ → List A → List A
beside k numbers items = map (λ e. e.1) (filter (λ e. e.0 == k) (zip numbers items))

-- so many groups, each with the items that stand beside its number
pub record AreGroups {A : Type 0} (count : ℕ) (numbers : List ℕ) (items : List A) (groups : List (List A)) : Type 0 where
  pub as_many : length groups ≡ count
  pub each : (k : ℕ) → k < count → slice_index_or groups k [] ≡ beside k numbers items
