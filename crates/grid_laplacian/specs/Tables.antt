-- Words of proofs, which nobody need believe.
-- Tables of weights between the places 0, 1, .., n - 1, such as the susceptances between the classes of a grid: their
-- Laplacian, and what it is to solve it where some places are free and the others are held at 0.
use Rattle.std.specs.Prelude.{◌≡◌, ℕ, ◌<◌, Bool, true, false, ℤ, pos, ◌-ℤ◌, ◌*ℤ◌}
use Rattle.whole_laws.specs.Sums.{sum_below}

-- at the place i, the sum of the weight times the difference of f, over all places
abbrev pub laplacian : ℕ → (ℕ → ℕ → ℕ) → (ℕ → ℤ) → ℕ → ℤ
laplacian n w f i = sum_below n (λ j. pos (w i j) *ℤ (f i -ℤ f j))

-- a positive weight leads from a place of the set to a place outside it
pub record Leaves (n : ℕ) (w : ℕ → ℕ → ℕ) (set : ℕ → Bool) : Type 0 where
  pub inner : ℕ
  pub outer : ℕ
  pub inner_below : inner < n
  pub outer_below : outer < n
  pub inside : set inner ≡ true
  pub outside : set outer ≡ false
  pub joined : 0 < w inner outer

-- each set of free places that is not empty is left by a positive weight
abbrev pub IsGrounded : ℕ → (ℕ → ℕ → ℕ) → (ℕ → Bool) → Type 0
IsGrounded n w free = (set : ℕ → Bool) → ((i : ℕ) → i < n → set i ≡ true → free i ≡ true) → (i : ℕ) → i < n → set i ≡ true → Leaves n w set

-- t over the common denominator d solves for the right side p: 0 at the places that are not free, and balanced at the others
pub record SolvesTable (n : ℕ) (w : ℕ → ℕ → ℕ) (free : ℕ → Bool) (p t : ℕ → ℤ) (d : ℕ) : Type 0 where
  pub positive : 0 < d
  pub fixed : (i : ℕ) → i < n → free i ≡ false → t i ≡ pos 0
  pub balanced : (i : ℕ) → i < n → free i ≡ true → laplacian n w t i ≡ pos d *ℤ p i
