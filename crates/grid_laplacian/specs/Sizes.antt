-- Sizes of a state, over its live classes: the least and the greatest susceptances, and what is fed in.
use Rattle.std.specs.Prelude.{◌≡◌, ℕ, zero, suc, ◌<◌, ◌≤◌, min, max, if◌then◌else◌, List, [], ◌∷◌, All, Any, sum_by, ℤ, unsigned_abs}
use Rattle.whole_laws.specs.Sums.{total_below, at}
use Rattle.grid_state.specs.declared.types.Edge.{Edge}
use Rattle.grid_state.specs.GridState.{GridState, classes_of, is_free, row_of, susceptance_of}

-- the greatest of f at 0, 1, .., n - 1, and 0 where there is none
abbrev pub greatest_below : ℕ → (ℕ → ℕ) → ℕ
greatest_below zero f = 0
greatest_below (suc n) f = max (greatest_below n f) (f n)

-- the susceptance of a class that is live and not the slack's, else 0
abbrev pub free_susceptance_of : GridState → ℕ → ℕ
free_susceptance_of s i = if is_free s i then susceptance_of s i else 0

-- the greatest susceptance of a live class but the slack's
abbrev pub greatest_susceptance_of : GridState → ℕ
greatest_susceptance_of s = greatest_below (classes_of s) (free_susceptance_of s)

-- the sum of the susceptances of the live classes but the slack's
abbrev pub total_susceptance_of : GridState → ℕ
total_susceptance_of s = total_below (classes_of s) (free_susceptance_of s)

-- no carrying branch between two classes has a susceptance below b
pub record IsAtMostEach (s : GridState) (b : ℕ) : Type 0 where
  pub each : (i : ℕ) → i < classes_of s → All (λ e. b ≤ e.b) (row_of s i)

-- b is the least susceptance of the carrying branches between two classes
pub record IsLeastSusceptance (s : GridState) (b : ℕ) : Type 0 where
  pub least : IsAtMostEach s b
  pub class : ℕ
  pub class_below : class < classes_of s
  pub taken : Any (λ e. e.b ≡ b) (row_of s class)

-- the sum of |p| over the live classes but the slack's
abbrev pub supply_of : GridState → List ℤ → ℕ
supply_of s p = total_below (classes_of s) (λ i. if is_free s i then unsigned_abs (at p i) else 0)

-- the least of 10^11 and the susceptances of a row. No susceptance is above 10^11
abbrev pub least_over : List Edge → ℕ
least_over [] = 100000000000
least_over (e ∷ es) = min e.b (least_over es)

-- the least of 10^11 and f at 0, 1, .., n - 1
abbrev pub least_below : ℕ → (ℕ → ℕ) → ℕ
least_below zero f = 100000000000
least_below (suc n) f = min (least_below n f) (f n)

-- the least susceptance of the carrying branches between two classes; where there is none, 10^11
abbrev pub least_susceptance_of : GridState → ℕ
least_susceptance_of s = least_below (classes_of s) (λ i. least_over (row_of s i))

-- the sum of the sizes of all numbers of a list
abbrev pub size_of : List ℤ → ℕ
size_of p = sum_by unsigned_abs p
