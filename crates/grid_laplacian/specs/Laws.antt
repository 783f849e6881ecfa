-- The direct-current load flow of a state, and its laws, for all lists of whole numbers. A list has one number for each class.
-- An angle is a whole number t over a denominator d that all classes share.
use Rattle.std.specs.Prelude.{◌≡◌, ℕ, ◌*◌, ◌<◌, ◌≤◌, true, false, List, [], ◌∷◌, length, All, ℤ, pos, ◌+ℤ◌, ◌-ℤ◌, ◌*ℤ◌, ◌≤ℤ◌, unsigned_abs}
use Rattle.whole_laws.specs.Sums.{at}
use Rattle.grid_state.specs.declared.types.Edge.{Edge}
use Rattle.grid_state.specs.GridState.{GridState, classes_of, is_live, is_free, row_of, live_count}
use Rattle.grid_laplacian.specs.Sizes.{IsAtMostEach, supply_of}

-- the sum of b·(x - f_j) over the branches of a row, j being the class that a branch leads to
abbrev pub drop_over : List Edge → (ℕ → ℤ) → ℤ → ℤ
drop_over [] f x = pos 0
drop_over (e ∷ es) f x = pos e.b *ℤ (x -ℤ f e.to) +ℤ drop_over es f x

-- L·f at the class i: the sum of b·(f_i - f_j) over its carrying branches to other classes j
abbrev pub laplacian_at : GridState → List ℤ → ℕ → ℤ
laplacian_at s f i = drop_over (row_of s i) (at f) (at f i)

-- t over d are the angles that the right side p makes: 0 at the slack's class and at classes that are not live, and
-- L·t = d·p at every other class
pub record Solves (s : GridState) (p t : List ℤ) (d : ℕ) : Type 0 where
  pub each_class : length t ≡ classes_of s
  pub positive : 1 ≤ d
  pub fixed : (i : ℕ) → i < classes_of s → is_free s i ≡ false → at t i ≡ pos 0
  pub balanced : (i : ℕ) → i < classes_of s → is_free s i ≡ true → laplacian_at s t i ≡ pos d *ℤ at p i

-- ---- The laws

-- a list that is 0 at the slack's class, and whose L·f is at least 0 at every other live class, is at least 0 at each live
-- class
abbrev pub Maximum : GridState → Type 0
Maximum s = (f : List ℤ) → ((i : ℕ) → i < classes_of s → is_free s i ≡ true → pos 0 ≤ℤ laplacian_at s f i) → at f s.slack ≡ pos 0
    → (i : ℕ) → i < classes_of s → is_live s i ≡ true → pos 0 ≤ℤ at f i

-- each right side has angles
abbrev pub Existence : GridState → Type 0
Existence s = (p : List ℤ) → (t : List ℤ) × (d : ℕ) × Solves s p t d

-- and they are the same fractions, however they are written
abbrev pub Uniqueness : GridState → Type 0
Uniqueness s = (p t t' : List ℤ) (d d' : ℕ) → Solves s p t d → Solves s p t' d' → (i : ℕ) → i < classes_of s → at t i *ℤ pos d' ≡ at t' i *ℤ pos d

-- no carrying branch has a flow b·(t_i - t_j)/d above the supply
abbrev pub Cut : GridState → Type 0
Cut s = (p t : List ℤ) (d : ℕ) → Solves s p t d → (i : ℕ) → i < classes_of s
    → All (λ e. unsigned_abs (pos e.b *ℤ (at t i -ℤ at t e.to)) ≤ d * supply_of s p) (row_of s i)

-- with b the least susceptance, or less, and n the number of live classes, b·|t_i|/d is at most n times the supply
abbrev pub Angle : GridState → Type 0
Angle s = (p t : List ℤ) (d : ℕ) → Solves s p t d → (b : ℕ) → IsAtMostEach s b → (i : ℕ) → i < classes_of s
    → b * unsigned_abs (at t i) ≤ d * live_count s * supply_of s p
