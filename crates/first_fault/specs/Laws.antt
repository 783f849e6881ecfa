-- What holds of first faults.
use Rattle.std.specs.Prelude.{◌≡◌, ℕ, List, Option}
use Rattle.first_fault.specs.FirstFault.{IsFirstFault, HasNoFault}

-- A list has at most one first fault, and none where no item has a fault.
pub record FirstFaultIsOne (I K : Type 0) : Type 0 where
  pub same : (fault_of : List I → I → Option K) (all : List I) (m n : ℕ) (j k : K) → IsFirstFault fault_of all m j → IsFirstFault fault_of all n k → (m ≡ n) × (j ≡ k)
  pub none : (fault_of : List I → I → Option K) (all : List I) (n : ℕ) (k : K) → IsFirstFault fault_of all n k → HasNoFault fault_of all → ⊥
