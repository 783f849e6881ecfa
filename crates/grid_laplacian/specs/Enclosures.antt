-- Enclosures of the exact angles of a state: a barrier, whose Laplacian is at least the susceptance, and for each right side p a
-- list w that leaves little of it. Each exact angle is within kappa times the barrier of w. A list has one number for each
-- class; angles are in 10^-16 rad, right sides in 10^-13 W and susceptances in kW/rad.
use Rattle.std.specs.Prelude.{◌≡◌, ℕ, ◌*◌, ◌^◌, ◌<◌, ◌≤◌, true, false, List, length, All, ℤ, pos, ◌+ℤ◌, ◌-ℤ◌, ◌*ℤ◌, ◌≤ℤ◌, unsigned_abs}
use Rattle.whole_laws.specs.Sums.{at}
use Rattle.fb_types.specs.declared.rows.Angles.{Angles}
use Rattle.grid_state.specs.GridState.{GridState, classes_of, is_free, live_count, susceptance_of}
use Rattle.grid_laplacian.specs.Sizes.{least_susceptance_of}
use Rattle.grid_laplacian.specs.Laws.{laplacian_at, Solves}
use Rattle.grid_laplacian.specs.Ranges.{reach_of, greater_total_of}

-- v is from 0 to twice the reach, 0 at the slack's class and at classes that are not live, and L·v is at least the
-- susceptance at every other class
pub record IsBarrier (s : GridState) (v : List ℤ) : Type 0 where
  pub each_class : length v ≡ classes_of s
  pub nonnegative : All (λ z. pos 0 ≤ℤ z) v
  pub in_reach : All (λ z. z ≤ℤ pos (2 * reach_of s)) v
  pub fixed : (i : ℕ) → i < classes_of s → is_free s i ≡ false → at v i ≡ pos 0
  pub over : (i : ℕ) → i < classes_of s → is_free s i ≡ true → pos (susceptance_of s i) ≤ℤ laplacian_at s v i

-- |p - L·w| is at most k times the susceptance at each live class but the slack's
abbrev pub IsNear : GridState → List ℤ → List ℤ → ℕ → Type 0
IsNear s p w k = (i : ℕ) → i < classes_of s → is_free s i ≡ true → unsigned_abs (at p i -ℤ laplacian_at s w i) ≤ k * susceptance_of s i

-- w is 0 at the slack's class and at classes that are not live, leaves at most kappa times the susceptance of p at every
-- other class, and kappa is the least of 0 and 1 for which this holds. With n live classes and the least susceptance b, each
-- |w| is at most 2·n/b times the greater of `total` and twice the sum of the susceptances
pub record EnclosesWithin (s : GridState) (total : ℕ) (p : List ℤ) (angles : Angles) : Type 0 where
  pub each_class : length angles.w ≡ classes_of s
  pub small : All (λ z. least_susceptance_of s * unsigned_abs z ≤ 2 * live_count s * greater_total_of s total) angles.w
  pub fixed : (i : ℕ) → i < classes_of s → is_free s i ≡ false → at angles.w i ≡ pos 0
  pub near : IsNear s p angles.w angles.kappa
  pub at_most_one : angles.kappa ≤ 1
  pub least : IsNear s p angles.w 0 → angles.kappa ≡ 0

-- what a certificate promises of a column: the same within the bound that the range rule gives
abbrev pub EnclosesColumn : GridState → List ℤ → Angles → Type 0
EnclosesColumn s p angles = EnclosesWithin s (2 * 10 ^ 25) p angles

-- ---- Containment

-- from w - kappa·v to w + kappa·v at the class i
abbrev pub angle_span_of : List ℤ → Angles → ℕ → ℤ × ℤ
angle_span_of v angles i = (at angles.w i -ℤ pos angles.kappa *ℤ at v i, at angles.w i +ℤ pos angles.kappa *ℤ at v i)

-- at each class the angle t/d lies in the span
pub record AnglesLie (s : GridState) (v : List ℤ) (angles : Angles) (t : List ℤ) (d : ℕ) : Type 0 where
  pub above : (i : ℕ) → i < classes_of s → (pos d *ℤ (angle_span_of v angles i).0) ≤ℤ at t i
  pub below : (i : ℕ) → i < classes_of s → at t i ≤ℤ (pos d *ℤ (angle_span_of v angles i).1)

-- p makes angles, and the spans hold them, however they are written
pub record HoldsAngles (s : GridState) (v p : List ℤ) (angles : Angles) : Type 0 where
  pub some : (t : List ℤ) × (d : ℕ) × Solves s p t d
  pub each : (t : List ℤ) (d : ℕ) → Solves s p t d → AnglesLie s v angles t d

-- a barrier and an enclosed column, wherever they come from, hold the exact angles of the column
abbrev pub Containment : GridState → Type 0
Containment s = (v p : List ℤ) (angles : Angles) (total : ℕ) → IsBarrier s v → EnclosesWithin s total p angles → HoldsAngles s v p angles
