-- How wide the spans of angles and of flows are.
use Rattle.std.proofs.Common.{◌≡◌, ℕ, zero, suc, ◌*◌, ◌<◌, ◌≤◌, true, List, ℤ, pos, ◌+ℤ◌, ◌-ℤ◌, ◌*ℤ◌, ◌≤ℤ◌, arith}
use Rattle.std.specs.Prelude.{unsigned_abs}
use Rattle.std.proofs.lemmas.Int.{ints}
use Rattle.std.proofs.lemmas.List.Elements.{All-get_or}
use Rattle.whole_laws.specs.Ring.{ring, linear, scale-≤, *ℤ-add, *ℤ-sub}
use Rattle.whole_laws.specs.Sums.{at}
use Rattle.fb_types.specs.declared.grid.Grid.{Grid}
use Rattle.fb_types.specs.declared.rows.Angles.{Angles}
use Rattle.grid_state.specs.GridState.{GridState, classes_of, class_at, carries_at, IsSound}
use Rattle.grid_laplacian.specs.Ranges.{reach_of, IsOfGrid}
use Rattle.grid_laplacian.specs.Enclosures.{IsBarrier}
use Rattle.security.specs.Flows.{NumberedBranch}
use Rattle.exact_flows.proofs.Listed.{class_below}
use Rattle.branch_spans.specs.FlowSpans.{difference_of, doubt_of, flow_span_of, IsBranchOf}
use Rattle.branch_spans.proofs.Branches.{in_range}
use Rattle.security.specs.Gaps.{stretch_of}
use Rattle.row_gaps.specs.Widths.{AreAnglesNarrow, IsFlowNarrow}

-- the barrier at a class
barrier_at : (s : GridState) (v : List ℤ) → IsBarrier s v → (i : ℕ) → i < classes_of s
    → (pos 0 ≤ℤ at v i) × (at v i ≤ℤ pos (2 * reach_of s))
barrier_at s v barrier i h =
    let long = barrier.each_class in
    (All-get_or (λ z. pos 0 ≤ℤ z) v i (pos 0) (omega (arith, long)) barrier.nonnegative, All-get_or (λ z. z ≤ℤ pos (2 * reach_of s)) v i (pos 0) (omega (arith, long)) barrier.in_reach)

-- kappa times what the barrier has at a class
one_end : (k h : ℕ) (w x : ℤ) → k ≤ 1 → pos 0 ≤ℤ x → x ≤ℤ pos (2 * h)
    → ((w +ℤ pos k *ℤ x) -ℤ (w -ℤ pos k *ℤ x)) ≤ℤ pos (4 * h)
one_end zero h w x le low high = let e : pos 0 *ℤ x ≡ pos 0 = simp ring in omega (arith, ints, e)
one_end (suc zero) h w x le low high = let e : pos 1 *ℤ x ≡ x = simp ring in omega (arith, ints, e, low, high)
one_end (suc (suc k)) h w x le low high = absurd (omega arith)

pub angles_narrow : (s : GridState) (v : List ℤ) (angles : Angles) → IsBarrier s v → angles.kappa ≤ 1
    → AreAnglesNarrow s v angles
angles_narrow s v angles barrier le i h =
    let b = barrier_at s v barrier i h in
    one_end angles.kappa (reach_of s) (at angles.w i) (at v i) le b.0 b.1

-- kappa times what the barrier has at two classes
two_ends : (k h : ℕ) (x y : ℤ) → k ≤ 1 → pos 0 ≤ℤ x → x ≤ℤ pos (2 * h) → pos 0 ≤ℤ y → y ≤ℤ pos (2 * h)
    → (pos k *ℤ (x +ℤ y)) ≤ℤ pos (4 * h)
two_ends zero h x y le xl xh yl yh = let e : pos 0 *ℤ (x +ℤ y) ≡ pos 0 = simp ring in omega (arith, ints, e)
two_ends (suc zero) h x y le xl xh yl yh = let e : pos 1 *ℤ (x +ℤ y) ≡ x +ℤ y = simp ring in omega (arith, ints, e, xh, yh)
two_ends (suc (suc k)) h x y le xl xh yl yh = absurd (omega arith)

-- b·(d + e) less b·(d − e)
stretched : (b d e : ℤ) (h : ℕ) → pos 1 ≤ℤ b → e ≤ℤ pos (4 * h)
    → (b *ℤ (d +ℤ e) -ℤ b *ℤ (d -ℤ e)) ≤ℤ pos (8 * (unsigned_abs b * h))
stretched b d e h some le =
    let same : pos (unsigned_abs b) ≡ b = omega (arith, ints, some) in
    let s = scale-≤ b e (pos (4 * h)) (omega (arith, linear, some)) le in
    let width : b *ℤ (d +ℤ e) -ℤ b *ℤ (d -ℤ e) ≡ pos 2 *ℤ (b *ℤ e) = twice b d e in
    let all : b *ℤ pos (4 * h) ≡ pos (4 * (unsigned_abs b * h)) = size b (unsigned_abs b) same in
    omega (arith, ints, s, width, all)
  where
    twice : (b d e : ℤ) → b *ℤ (d +ℤ e) -ℤ b *ℤ (d -ℤ e) ≡ pos 2 *ℤ (b *ℤ e)
    twice b d e =
        let more = *ℤ-add b d e in
        let less = *ℤ-sub b d e in
        let two : pos 2 *ℤ (b *ℤ e) ≡ b *ℤ e +ℤ b *ℤ e = omega (arith, ints) in
        omega (arith, linear, more, less, two)

    size : (b : ℤ) (n : ℕ) → pos n ≡ b → b *ℤ pos (4 * h) ≡ pos (4 * (n * h))
    size b n same = rw (← same) (natural n h)
      where
        natural : (n h : ℕ) → pos n *ℤ pos (4 * h) ≡ pos (4 * (n * h))
        natural n h = let e : n * (4 * h) ≡ 4 * (n * h) = grind arith in omega (arith, ints, e)

pub flow_narrow : (grid : Grid) (s : GridState) (c : NumberedBranch) → IsSound s → IsOfGrid grid s → IsBranchOf grid c
    → carries_at s c.number ≡ true
    → (v : List ℤ) (angles : Angles) → IsBarrier s v → angles.kappa ≤ 1 → IsFlowNarrow (stretch_of s c.branch) (flow_span_of s c.branch v angles)
flow_narrow grid s c sound of stands carries v angles barrier le =
    let i = class_at s c.branch.from in
    let j = class_at s c.branch.to in
    let x = barrier_at s v barrier i (class_below s sound c.branch.from) in
    let y = barrier_at s v barrier j (class_below s sound c.branch.to) in
    stretched c.branch.b (difference_of angles i j) (doubt_of v angles i j) (reach_of s)
    (in_range grid s c of stands carries).some
    (two_ends angles.kappa (reach_of s) (at v i) (at v j) le x.0 x.1 y.0 y.1)
