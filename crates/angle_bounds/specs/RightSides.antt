-- Words of private contracts: the right sides that are swept, and lists that are proposed as angles. Nobody need believe them:
-- the contracts of `barrier` and `enclose` say what comes of them.
use Rattle.std.specs.Prelude.{◌≡◌, ℕ, suc, true, ◌*◌, ◌<◌, ◌≤◌, false, if◌then◌else◌, List, length, All, ℤ, pos, negsuc, ◌+ℤ◌, ◌-ℤ◌, ◌≤ℤ◌, unsigned_abs, ◌⊎◌}
use Rattle.whole_laws.specs.Sums.{at}
use Rattle.grid_state.specs.GridState.{GridState, classes_of, is_free, live_count, susceptance_of}
use Rattle.grid_laplacian.specs.Sizes.{least_susceptance_of, size_of}
use Rattle.grid_laplacian.specs.Ranges.{greater_total_of, reach_of}
use Rattle.grid_laplacian.specs.Laws.{laplacian_at}
use Rattle.grid_laplacian.specs.Enclosures.{IsNear}

-- the part of a number above 0, and the size of what is below
abbrev pub above_zero : ℤ → ℤ
above_zero (pos n) = pos n
above_zero (negsuc n) = pos 0

abbrev pub below_zero : ℤ → ℤ
below_zero (pos n) = pos 0
below_zero (negsuc n) = pos (suc n)

-- f at a live class but the slack's, and 0 elsewhere
abbrev pub free_value : GridState → (ℕ → ℤ) → ℕ → ℤ
free_value s f i = if is_free s i then f i else pos 0

abbrev pub doubled : GridState → ℕ → ℤ
doubled s i = pos (2 * susceptance_of s i)

abbrev pub part_above : List ℤ → ℕ → ℤ
part_above p i = above_zero (at p i)

abbrev pub part_below : List ℤ → ℕ → ℤ
part_below p i = below_zero (at p i)

-- the list of these at the first n classes
pub record IsMade (s : GridState) (f : ℕ → ℤ) (q : List ℤ) (n : ℕ) : Type 0 where
  pub each_class : length q ≡ n
  pub values : (i : ℕ) → i < n → at q i ≡ free_value s f i

-- the differences of the first n numbers of two lists
pub record IsDifference (a b w : List ℤ) (n : ℕ) : Type 0 where
  pub each_class : length w ≡ n
  pub values : (i : ℕ) → i < n → at w i ≡ at a i -ℤ at b i

-- a list that may stand as angles of p, with kappa 1 at most
pub record IsProposed (s : GridState) (p w : List ℤ) : Type 0 where
  pub each_class : length w ≡ classes_of s
  pub small : All (λ z. least_susceptance_of s * unsigned_abs z ≤ 2 * live_count s * greater_total_of s (size_of p)) w
  pub fixed : (i : ℕ) → i < classes_of s → is_free s i ≡ false → at w i ≡ pos 0
  pub near : IsNear s p w 1

-- ---- guesses
-- what the list w leaves of p at a class
abbrev pub remainder_of : GridState → List ℤ → List ℤ → ℕ → ℤ
remainder_of s p w i = at p i -ℤ laplacian_at s w i

-- at the first n classes that are live and not the slack's, what is left is at most the susceptance
pub record IsAtMostOne (s : GridState) (left : List ℤ) (n : ℕ) : Type 0 where
  pub each : (i : ℕ) → i < n → is_free s i ≡ true → unsigned_abs (at left i) ≤ susceptance_of s i

-- a number that was moved, but not past the limit
pub record IsMoved (limit : ℕ) (z by moved : ℤ) : Type 0 where
  pub choice : (moved ≡ z) ⊎ (unsigned_abs moved ≤ limit)
  pub still : by ≡ pos 0 → moved ≡ z

-- the first n numbers of a list, moved
pub record AreMoved (limit : ℕ) (w by moved : List ℤ) (n : ℕ) : Type 0 where
  pub each_class : length moved ≡ n
  pub values : (i : ℕ) → i < n → IsMoved limit (at w i) (at by i) (at moved i)

-- the sums of the first n numbers of two lists
pub record IsSum (a b w : List ℤ) (n : ℕ) : Type 0 where
  pub each_class : length w ≡ n
  pub values : (i : ℕ) → i < n → at w i ≡ at a i +ℤ at b i

-- a number from 0 to twice the reach, where what is left of twice the susceptance is at most once
pub record IsBarrierAt (s : GridState) (v left : List ℤ) (i : ℕ) : Type 0 where
  pub high : pos 0 ≤ℤ at v i
  pub in_reach : at v i ≤ℤ pos (2 * reach_of s)
  pub little : is_free s i ≡ true → at left i ≤ℤ pos (susceptance_of s i)
