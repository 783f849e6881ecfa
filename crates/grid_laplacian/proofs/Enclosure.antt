-- Lists whose residual is known lie on one side of each solution.
use Rattle.std.proofs.Common.{◌≡◌, ℕ, ◌*◌, ◌<◌, ◌≤◌, Bool, true, false, ℤ, pos, negsuc, ◌+ℤ◌, ◌-ℤ◌, ◌*ℤ◌, neg_ℤ, nat_abs, ◌≤ℤ◌, arith, le_of_mul-le-mul_right, List, ◌∙◌}
use Rattle.std.proofs.lemmas.Int.{ints}
use Rattle.whole_laws.specs.Ring.{scale-≤, neg-*ℤ, *ℤ-sub, *ℤ_left_comm}
use Rattle.whole_laws.specs.Sums.{at}
use Rattle.fb_types.specs.declared.rows.Angles.{Angles}
use Rattle.grid_state.specs.GridState.{GridState, classes_of, weight, is_free, susceptance_of, IsSound}
use Rattle.grid_laplacian.specs.Tables.{laplacian, IsGrounded, SolvesTable}
use Rattle.grid_laplacian.specs.Laws.{Solves}
use Rattle.grid_laplacian.specs.Enclosures.{IsBarrier, EnclosesWithin, AnglesLie, Containment}
use Rattle.grid_laplacian.proofs.Maximum.{maximum}
use Rattle.grid_laplacian.proofs.Uniqueness.{laplacian-combine}
use Rattle.grid_laplacian.proofs.Existence.{solution}
use Rattle.grid_laplacian.proofs.Angle.{angle, free_count}
use Rattle.grid_laplacian.proofs.Cut.{supply, SolvesTable-neg, laplacian-neg}
use Rattle.grid_laplacian.proofs.Bridge.{grounded, laplacian_is}
use Rattle.grid_laplacian.proofs.LawProofs.{solves_of, existence_holds}

pub scaled : (d : ℕ) (x y : ℤ) → x ≤ℤ y → (pos d *ℤ x) ≤ℤ (pos d *ℤ y)
scaled d x y h = scale-≤ (pos d) x y (omega (arith, ints)) h

-- one list less a multiple of another
abbrev less : ℕ → (ℕ → ℤ) → (ℕ → ℤ) → ℕ → ℤ
less d x y i = pos 1 *ℤ x i +ℤ neg_ℤ (pos d) *ℤ y i

less_is : (d : ℕ) (x y : ℤ) → pos 1 *ℤ x +ℤ neg_ℤ (pos d) *ℤ y ≡ x -ℤ pos d *ℤ y
less_is d x y = let e = neg-*ℤ (pos d) y in omega (arith, ints)

laplacian-less : (n : ℕ) (w : ℕ → ℕ → ℕ) (d : ℕ) (x y : ℕ → ℤ) (i : ℕ) → laplacian n w (less d x y) i ≡ laplacian n w x i -ℤ pos d *ℤ laplacian n w y i
laplacian-less n w d x y i = laplacian-combine n w (pos 1) (neg_ℤ (pos d)) x y i ∙ less_is d (laplacian n w x i) (laplacian n w y i)

left : (x y z : ℤ) → x ≡ y -ℤ z → z ≤ℤ y → pos 0 ≤ℤ x
left x y z e h = omega (arith, ints)

-- a list whose residual is at least 0 is at most each solution
pub at_most_solution : (n : ℕ) (w : ℕ → ℕ → ℕ) (free : ℕ → Bool) → IsGrounded n w free → (p t : ℕ → ℤ) (d : ℕ) → SolvesTable n w free p t d
    → (x : ℕ → ℤ) → ((i : ℕ) → i < n → free i ≡ true → laplacian n w x i ≤ℤ p i) → ((i : ℕ) → i < n → free i ≡ false → x i ≤ℤ pos 0)
    → (i : ℕ) → i < n → (pos d *ℤ x i) ≤ℤ t i
at_most_solution n w free grounded p t d s x inside edge i h =
    let high = maximum n w free grounded (less d t x)
    (λ j b is. left (laplacian n w (less d t x) j) (laplacian n w t j) (pos d *ℤ laplacian n w x j) (laplacian-less n w d t x j)
    (rw (s.balanced j b is) (scaled d (laplacian n w x j) (p j) (inside j b is))))
    (λ j b u. let low = edge j b u in let at = s.fixed j b u in let more = scaled d (x j) (pos 0) low in let e = less_is d (t j) (x j) in omega (arith, ints))
    i h in
    let e = less_is d (t i) (x i) in
    omega (arith, ints)

-- the same, with no solution named
pub bounded : (n : ℕ) (w : ℕ → ℕ → ℕ) (free : ℕ → Bool) → ((i j : ℕ) → w i j ≡ w j i) → IsGrounded n w free → (p : ℕ → ℤ)
    → (b : ℕ) → ((i j : ℕ) → i < n → j < n → 0 < w i j → b ≤ w i j)
    → (x : ℕ → ℤ) → ((i : ℕ) → i < n → free i ≡ true → laplacian n w x i ≤ℤ p i) → ((i : ℕ) → i < n → free i ≡ false → x i ≤ℤ pos 0)
    → (i : ℕ) → i < n → (pos b *ℤ x i) ≤ℤ pos (free_count n free * supply n free p)
bounded n w free symmetric grounded p b least x inside edge i h =
    let all = solution n w free grounded in
    let one = all.2 p in
    let low = at_most_solution n w free grounded p one.0 all.0 one.1 x inside edge i h in
    let size = angle n w free symmetric grounded p one.0 all.0 one.1 b least i h in
    let times = scaled b (pos all.0 *ℤ x i) (one.0 i) low in
    let up_to : one.0 i ≤ℤ pos (nat_abs (one.0 i)) = omega (arith, ints) in
    let times' = scaled b (one.0 i) (pos (nat_abs (one.0 i))) up_to in
    let same = *ℤ_left_comm (pos b) (pos all.0) (x i) in
    cancel all.0 (pos b *ℤ x i) (free_count n free * supply n free p) all.1 (omega (arith, ints))
  where
    cancel : (d : ℕ) (z : ℤ) (k : ℕ) → 0 < d → (pos d *ℤ z) ≤ℤ pos (d * k) → z ≤ℤ pos k
    cancel d (pos y) k some h = let e : y * d ≤ k * d = omega (arith, ints) in let e' : y ≤ k = le_of_mul-le-mul_right e some in omega (arith, ints)
    cancel d (negsuc y) k some h = omega (arith, ints)

-- ---- enclosures
-- v is a barrier, and w is off by at most k times s: each solution lies within w - k·v and w + k·v
contains_low : (n : ℕ) (w : ℕ → ℕ → ℕ) (free : ℕ → Bool) → IsGrounded n w free → (p t : ℕ → ℤ) (d : ℕ) → SolvesTable n w free p t d
    → (s : ℕ → ℕ) (v x : ℕ → ℤ) (k : ℕ)
    → ((i : ℕ) → i < n → free i ≡ true → pos (s i) ≤ℤ laplacian n w v i) → ((i : ℕ) → i < n → free i ≡ false → pos 0 ≤ℤ v i)
    → ((i : ℕ) → i < n → free i ≡ true → laplacian n w x i ≤ℤ (p i +ℤ pos (k * s i))) → ((i : ℕ) → i < n → free i ≡ false → x i ≤ℤ pos 0)
    → (i : ℕ) → i < n → (pos d *ℤ (x i -ℤ pos k *ℤ v i)) ≤ℤ t i
contains_low n w free grounded p t d solved s v x k barrier edge_v near edge_x i h =
    let low = at_most_solution n w free grounded p t d solved (less k x v)
    (λ j b is.
    let e = laplacian-less n w k x v j in
    let more = scaled k (pos (s j)) (laplacian n w v j) (barrier j b is) in
    let close = near j b is in
    omega (arith, ints))
    (λ j b u.
    let e = less_is k (x j) (v j) in
    let more = scaled k (pos 0) (v j) (edge_v j b u) in
    let at = edge_x j b u in
    omega (arith, ints))
    i h in
    rw (← less_is k (x i) (v i)) low

contains_high : (n : ℕ) (w : ℕ → ℕ → ℕ) (free : ℕ → Bool) → IsGrounded n w free → (p t : ℕ → ℤ) (d : ℕ) → SolvesTable n w free p t d
    → (s : ℕ → ℕ) (v x : ℕ → ℤ) (k : ℕ)
    → ((i : ℕ) → i < n → free i ≡ true → pos (s i) ≤ℤ laplacian n w v i) → ((i : ℕ) → i < n → free i ≡ false → pos 0 ≤ℤ v i)
    → ((i : ℕ) → i < n → free i ≡ true → (p i -ℤ pos (k * s i)) ≤ℤ laplacian n w x i) → ((i : ℕ) → i < n → free i ≡ false → pos 0 ≤ℤ x i)
    → (i : ℕ) → i < n → t i ≤ℤ (pos d *ℤ (x i +ℤ pos k *ℤ v i))
contains_high n w free grounded p t d solved s v x k barrier edge_v near edge_x i h =
    let low = contains_low n w free grounded (λ j. neg_ℤ (p j)) (λ j. neg_ℤ (t j)) d (SolvesTable-neg n w free p t d solved) s v (λ j. neg_ℤ (x j)) k barrier edge_v
    (λ j b is. let e = laplacian-neg n w x j in let close = near j b is in omega (arith, ints))
    (λ j b u. let at = edge_x j b u in omega (arith, ints))
    i h in
    turned (pos d) (t i) (x i) (pos k *ℤ v i) low
  where
    turned : (d t x y : ℤ) → (d *ℤ (neg_ℤ x -ℤ y)) ≤ℤ neg_ℤ t → t ≤ℤ (d *ℤ (x +ℤ y))
    turned d t x y h =
        let e : neg_ℤ x -ℤ y ≡ pos 0 -ℤ (x +ℤ y) = omega (arith, ints) in
        let h' : (d *ℤ (pos 0 -ℤ (x +ℤ y))) ≤ℤ neg_ℤ t = rw e at h in
        let parts = *ℤ-sub d (pos 0) (x +ℤ y) in
        omega (arith, ints)

pub angles_lie : (s : GridState) → IsSound s → (v p t : List ℤ) (angles : Angles) (total d : ℕ) → IsBarrier s v → EnclosesWithin s total p angles → Solves s p t d → AnglesLie s v angles t d
angles_lie s sound v p t angles total d barrier encloses solves =
    let n = classes_of s in
    let solved = solves_of s sound p t d solves in
    let k = angles.kappa in
    let over : (j : ℕ) → j < n → is_free s j ≡ true → pos (susceptance_of s j) ≤ℤ laplacian n (weight s) (at v) j = λ j b is. rw (laplacian_is s sound v j b) (barrier.over j b is) in
    let edge_v : (j : ℕ) → j < n → is_free s j ≡ false → pos 0 ≤ℤ at v j = λ j b u. let e = barrier.fixed j b u in omega (arith, ints) in
    record {
      above = contains_low n (weight s) (is_free s) (grounded s sound) (at p) (at t) d solved (susceptance_of s) (at v) (at angles.w) k over edge_v
          (λ j b is. rw (laplacian_is s sound angles.w j b) (let e = encloses.near j b is in omega (arith, ints)))
          (λ j b u. let e = encloses.fixed j b u in omega (arith, ints));
      below = contains_high n (weight s) (is_free s) (grounded s sound) (at p) (at t) d solved (susceptance_of s) (at v) (at angles.w) k over edge_v
          (λ j b is. rw (laplacian_is s sound angles.w j b) (let e = encloses.near j b is in omega (arith, ints)))
          (λ j b u. let e = encloses.fixed j b u in omega (arith, ints));
    }

pub containment_holds : (s : GridState) → IsSound s → Containment s
containment_holds s sound v p angles total barrier encloses = record {
  some = existence_holds s sound p;
  each = λ t d solves. angles_lie s sound v p t angles total d barrier encloses solves;
}
