-- How large the angles, the barrier and the flows of a branch are, and that the span holds the exact flow.
use Rattle.std.proofs.Common.{◌≡◌, ◌≢◌, ℕ, zero, suc, ◌*◌, ◌^◌, ◌<◌, ◌≤◌, ◌⊎◌, inl, inr, true, false, List, ℤ, pos, ◌+ℤ◌, ◌-ℤ◌, ◌*ℤ◌, ◌≤ℤ◌, sym, ap, ◌∙◌, arith, nat_abs, mul-le-mul, mul-le-mul_right}
use Rattle.std.specs.Prelude.{unsigned_abs}
use Rattle.std.proofs.lemmas.Bool.{cases_Bool, cases_eq}
use Rattle.std.proofs.lemmas.Int.{ints, unsigned_abs-mul}
use Rattle.std.proofs.lemmas.List.Elements.{All-get_or}
use Rattle.whole_laws.specs.Ring.{ring, linear}
use Rattle.whole_laws.specs.Sums.{at, IsWithin}
use Rattle.fb_types.specs.declared.rows.Angles.{Angles}
use Rattle.fb_types.specs.declared.grid.Grid.{Grid}
use Rattle.grid_state.specs.GridState.{GridState, classes_of, class_at, carries_at, is_free, live_count, IsSound}
use Rattle.grid_laplacian.specs.Sizes.{least_susceptance_of, greatest_susceptance_of}
use Rattle.grid_laplacian.specs.Ranges.{HasCrossing, HasRoomFor, greater_total_of, reach_of, IsOfGrid}
use Rattle.grid_laplacian.specs.Enclosures.{IsBarrier, EnclosesColumn}
use Rattle.grid_laplacian.proofs.Crossings.{free_crosses, crossing_positive}
use Rattle.grid_laplacian.proofs.SizeCondition.{enclosed_small}
use Rattle.security.specs.Flows.{NumberedBranch}
use Rattle.exact_flows.proofs.Listed.{class_below}
use Rattle.branch_spans.specs.FlowSpans.{difference_of, doubt_of, flow_span_of, IsColumn, IsBranchOf}
use Rattle.branch_spans.proofs.Reach.{reach_small}
use Rattle.branch_spans.proofs.Branches.{in_range, crossing, at_most_greatest}

-- the barrier is small
pub barrier_within : (s : GridState) → IsSound s → HasRoomFor s (2 * 10 ^ 25) → (v : List ℤ) → IsBarrier s v → (i : ℕ) → i < classes_of s → (pos 0 ≤ℤ at v i) × (at v i ≤ℤ pos (6 * 10 ^ 14))
barrier_within s sound room v barrier i h =
    let long = barrier.each_class in
    let low = All-get_or (λ z. pos 0 ≤ℤ z) v i (pos 0) (omega (arith, long)) barrier.nonnegative in
    let high = All-get_or (λ z. z ≤ℤ pos (2 * reach_of s)) v i (pos 0) (omega (arith, long)) barrier.in_reach in
    let small = reach_small s sound room in
    (low, omega (arith, ints, high, small))

-- where a carrying branch joins two classes, the greatest susceptance times an angle is small
scaled_small : (s : GridState) → IsSound s → HasRoomFor s (2 * 10 ^ 25) → HasCrossing s → (angles : Angles) (p : List ℤ) → EnclosesColumn s p angles → (i : ℕ) → i < classes_of s
    → greatest_susceptance_of s * nat_abs (at angles.w i) ≤ 2 ^ 121
scaled_small s sound room cross angles p encloses i h =
    let long = encloses.each_class in
    enclosed_small s sound (2 * 10 ^ 25) room cross (at angles.w i)
    (All-get_or (λ z. least_susceptance_of s * nat_abs z ≤ 2 * live_count s * greater_total_of s (2 * 10 ^ 25)) angles.w i (pos 0) (omega (arith, long)) encloses.small)

-- each angle is small
pub angle_within : (s : GridState) → IsSound s → HasRoomFor s (2 * 10 ^ 25) → (angles : Angles) → IsColumn s angles → (i : ℕ) → i < classes_of s → nat_abs (at angles.w i) ≤ 2 ^ 121
angle_within s sound room angles column i h = by_free (cases_Bool (is_free s i))
  where
    size : (g : ℕ) (z : ℤ) → 0 < g → g * nat_abs z ≤ 2 ^ 121 → nat_abs z ≤ 2 ^ 121
    size g z some le = let one = mul-le-mul_right (nat_abs z) some in omega arith

    by_free : ((is_free s i ≡ true) ⊎ (is_free s i ≡ false)) → nat_abs (at angles.w i) ≤ 2 ^ 121
    by_free (inr held) = let e = column.encloses.fixed i h held in omega (arith, ints)
    by_free (inl free) =
        let cross = free_crosses s sound i h free in
        size (greatest_susceptance_of s) (at angles.w i) (crossing_positive s sound cross) (scaled_small s sound room cross angles column.side column.encloses i h)

-- ---- the difference of two angles

pub record Small (k : ℕ) (w v : ℤ) : Type 0 where
  pub kappa : k ≤ 1
  pub angle : nat_abs w ≤ 2 ^ 121
  pub low : pos 0 ≤ℤ v
  pub high : v ≤ℤ pos (6 * 10 ^ 14)

pub small_at : (s : GridState) → IsSound s → HasRoomFor s (2 * 10 ^ 25) → (v : List ℤ) (angles : Angles) → IsBarrier s v → IsColumn s angles → (i : ℕ) → i < classes_of s → Small angles.kappa (at angles.w i) (at v i)
small_at s sound room v angles barrier column i h =
    let b = barrier_within s sound room v barrier i h in
    record { kappa = column.encloses.at_most_one; angle = angle_within s sound room angles column i h; low = b.0; high = b.1 }

pub ends_within : (k : ℕ) (w v : ℤ) → Small k w v → IsWithin (2 ^ 122) (w -ℤ pos k *ℤ v) × IsWithin (2 ^ 122) (w +ℤ pos k *ℤ v)
ends_within zero w v h =
    let a = h.angle in
    let e : pos 0 *ℤ v ≡ pos 0 = simp ring in
    (record { low = omega (arith, ints, a, e); high = omega (arith, ints, a, e) }, record { low = omega (arith, ints, a, e); high = omega (arith, ints, a, e) })
ends_within (suc zero) w v h =
    let a = h.angle in
    let l = h.low in
    let u = h.high in
    let e : pos 1 *ℤ v ≡ v = simp ring in
    (record { low = omega (arith, ints, a, l, u, e); high = omega (arith, ints, a, l, u, e) }, record { low = omega (arith, ints, a, l, u, e); high = omega (arith, ints, a, l, u, e) })
ends_within (suc (suc k)) w v h = absurd (let le = h.kappa in omega (arith, le))

-- ---- the flow

product_within : (m : ℕ) (b z : ℤ) → unsigned_abs b * nat_abs z ≤ m → IsWithin m (b *ℤ z)
product_within m b z h = let e = unsigned_abs-mul b z in record { low = omega (arith, ints, e); high = omega (arith, ints, e) }

doubt_within : (k : ℕ) (b x y : ℤ) → k ≤ 1 → pos 1 ≤ℤ b → b ≤ℤ pos (10 ^ 11) → pos 0 ≤ℤ x → x ≤ℤ pos (6 * 10 ^ 14) → pos 0 ≤ℤ y → y ≤ℤ pos (6 * 10 ^ 14) → IsWithin (2 ^ 90) (b *ℤ (pos k *ℤ (x +ℤ y)))
doubt_within k b x y one some small x_low x_high y_low y_high =
    let size : unsigned_abs b ≤ 10 ^ 11 = omega (arith, ints) in
    let inner : nat_abs (pos k *ℤ (x +ℤ y)) ≤ 12 * 10 ^ 14 = by_kappa k one in
    let le = mul-le-mul size inner in
    product_within (2 ^ 90) b (pos k *ℤ (x +ℤ y)) (omega arith)
  where
    by_kappa : (k : ℕ) → k ≤ 1 → nat_abs (pos k *ℤ (x +ℤ y)) ≤ 12 * 10 ^ 14
    by_kappa zero h = let e : pos 0 *ℤ (x +ℤ y) ≡ pos 0 = simp ring in omega (arith, ints, e)
    by_kappa (suc zero) h = let e : pos 1 *ℤ (x +ℤ y) ≡ x +ℤ y = simp ring in omega (arith, ints, e)
    by_kappa (suc (suc k)) h = absurd (omega arith)

apart_within : (b x y : ℤ) → unsigned_abs b * nat_abs x ≤ 2 ^ 121 → unsigned_abs b * nat_abs y ≤ 2 ^ 121 → IsWithin (2 ^ 122) (b *ℤ (x -ℤ y))
apart_within b x y h k =
    let one = product_within (2 ^ 121) b x h in
    let two = product_within (2 ^ 121) b y k in
    let e : b *ℤ (x -ℤ y) ≡ b *ℤ x -ℤ b *ℤ y = simp ring (omega (arith, linear)) in
    let l = one.low in
    let u = one.high in
    let m = two.low in
    let n = two.high in
    record { low = omega (arith, linear, e, l, u, m, n); high = omega (arith, linear, e, l, u, m, n) }

both_within : (b d e : ℤ) → IsWithin (2 ^ 122) (b *ℤ d) → IsWithin (2 ^ 90) (b *ℤ e) → IsWithin (2 ^ 123) (b *ℤ (d -ℤ e)) × IsWithin (2 ^ 123) (b *ℤ (d +ℤ e))
both_within b d e h k =
    let m : b *ℤ (d -ℤ e) ≡ b *ℤ d -ℤ b *ℤ e = simp ring (omega (arith, linear)) in
    let p : b *ℤ (d +ℤ e) ≡ b *ℤ d +ℤ b *ℤ e = simp ring in
    let a = h.low in
    let b = h.high in
    let c = k.low in
    let d = k.high in
    (record { low = omega (arith, linear, m, a, b, c, d); high = omega (arith, linear, m, a, b, c, d) }, record { low = omega (arith, linear, p, a, b, c, d); high = omega (arith, linear, p, a, b, c, d) })

-- the ends of the span of a flow
pub flow_within : (grid : Grid) (s : GridState) (c : NumberedBranch) → IsSound s → IsOfGrid grid s → IsBranchOf grid c → carries_at s c.number ≡ true → HasRoomFor s (2 * 10 ^ 25)
    → (v : List ℤ) (angles : Angles) → IsBarrier s v → IsColumn s angles
    → IsWithin (2 ^ 123) (flow_span_of s c.branch v angles).0 × IsWithin (2 ^ 123) (flow_span_of s c.branch v angles).1
flow_within grid s c sound of stands carries room v angles barrier column =
    let i = class_at s c.branch.from in
    let j = class_at s c.branch.to in
    let x = barrier_within s sound room v barrier i (class_below s sound c.branch.from) in
    let y = barrier_within s sound room v barrier j (class_below s sound c.branch.to) in
    let range = in_range grid s c of stands carries in
    let doubt = doubt_within angles.kappa c.branch.b (at v i) (at v j) column.encloses.at_most_one range.some range.small x.0 x.1 y.0 y.1 in
    both_within c.branch.b (difference_of angles i j) (doubt_of v angles i j) (difference (cases_eq i j)) doubt
  where
    difference : ((class_at s c.branch.from ≡ class_at s c.branch.to) ⊎ (class_at s c.branch.from ≢ class_at s c.branch.to))
        → IsWithin (2 ^ 122) (c.branch.b *ℤ difference_of angles (class_at s c.branch.from) (class_at s c.branch.to))
    difference (inl same) =
        let none : difference_of angles (class_at s c.branch.from) (class_at s c.branch.to) ≡ pos 0 =
        ap (λ k. at angles.w (class_at s c.branch.from) -ℤ at angles.w k) (sym same) ∙ self (at angles.w (class_at s c.branch.from)) in
        let e : c.branch.b *ℤ difference_of angles (class_at s c.branch.from) (class_at s c.branch.to) ≡ pos 0 = ap (λ z. c.branch.b *ℤ z) none ∙ times_zero c.branch.b in
        record { low = omega (arith, ints, e); high = omega (arith, ints, e) }
      where
        self : (z : ℤ) → z -ℤ z ≡ pos 0
        self z = omega (arith, ints)

        times_zero : (z : ℤ) → z *ℤ pos 0 ≡ pos 0
        times_zero z = simp ring
    difference (inr apart) =
        let cross = crossing grid s c sound of stands carries apart in
        let most = at_most_greatest grid s c sound of stands carries apart in
        apart_within c.branch.b (at angles.w (class_at s c.branch.from)) (at angles.w (class_at s c.branch.to))
        (less (at angles.w (class_at s c.branch.from)) most (scaled_small s sound room cross angles column.side column.encloses (class_at s c.branch.from) (class_below s sound c.branch.from)))
        (less (at angles.w (class_at s c.branch.to)) most (scaled_small s sound room cross angles column.side column.encloses (class_at s c.branch.to) (class_below s sound c.branch.to)))
      where
        less : (z : ℤ) → unsigned_abs c.branch.b ≤ greatest_susceptance_of s → greatest_susceptance_of s * nat_abs z ≤ 2 ^ 121 → unsigned_abs c.branch.b * nat_abs z ≤ 2 ^ 121
        less z most h = let more = mul-le-mul_right (nat_abs z) most in omega arith
