-- The first item of a list that has a fault, where an item is judged knowing the items before it.
use Rattle.std.specs.Prelude.{◌≡◌, ℕ, ◌+◌, List, ◌∷◌, ◌++◌, length, Option, Some, None}

-- The item at this number, counted from 1, has this fault, and no item before it has one.
pub record IsFirstFault {I K : Type 0} (fault_of : List I → I → Option K) (all : List I) (number : ℕ) (kind : K) : Type 0 where
  pub before : List I
  pub here : I
  pub after : List I
  pub split : all ≡ before ++ here ∷ after
  pub number_is : number ≡ length before + 1
  pub fault : fault_of before here ≡ Some kind
  pub none_before : (front : List I) (item : I) (rest : List I) → before ≡ front ++ item ∷ rest → fault_of front item ≡ None

-- No item has a fault.
abbrev pub HasNoFault : {I K : Type 0} → (List I → I → Option K) → List I → Type 0
HasNoFault {I} fault_of all = (front : List I) (item : I) (rest : List I) → all ≡ front ++ item ∷ rest → fault_of front item ≡ None
