-- The difference of two sweeps may stand as angles.
use Rattle.std.proofs.Common.{◌≡◌, ℕ, ◌+◌, ◌-◌, ◌*◌, ◌/◌, ◌%◌, ◌^◌, ◌<◌, ◌≤◌, ◌⊎◌, inl, inr, max, true, List, [], ◌∷◌, ◌++◌, length, length-append, below_more, All, ℤ, pos, negsuc, ◌-ℤ◌, ◌*ℤ◌, nat_abs, ◌≤ℤ◌, arith, mul-le-mul_left, div-add-mod', mod-lt, le_of_mul-le-mul_right, ap, ◌∙◌, refl}
use Rattle.std.proofs.lemmas.Int.{ints}
use Rattle.std.proofs.lemmas.List.{get_or_append_left, get_or_at}
use Rattle.std.proofs.lemmas.List.Elements.{All-head, All-tail, All-get_or, All-from_get_or, All-weaker}
use Rattle.whole_laws.specs.Sums.{at, IsWithin}
use Rattle.whole_laws.specs.Ring.{*ℤ-sub}
use Rattle.grid_state.specs.declared.types.Edge.{Edge}
use Rattle.grid_state.specs.GridState.{GridState, row_of, is_free, classes_of, live_count, IsEdge, IsSound}
use Rattle.grid_laplacian.specs.Laws.{drop_over, laplacian_at}
use Rattle.grid_laplacian.specs.Sizes.{least_susceptance_of, total_susceptance_of, greatest_susceptance_of, supply_of, size_of}
use Rattle.grid_laplacian.specs.Ranges.{HasRoomFor, greater_total_of, reach_of}
use Rattle.grid_laplacian.specs.Enclosures.{IsBarrier, IsNear, EnclosesWithin}
use Rattle.fb_types.specs.declared.rows.Angles.{Angles}
use Rattle.grid_laplacian.proofs.Crossings.{row_edges, free_crosses}
use Rattle.grid_laplacian.proofs.SizeLoops.{least_positive}
use Rattle.grid_laplacian.proofs.SizeCondition.{supply-le-size, within_scaled, enclosed_small}
use Rattle.angle_sweeps.specs.Sweeps.{IsUnder, IsClose}
use Rattle.angle_sweeps.proofs.Room.{under_bounded}
use Rattle.angle_bounds.specs.RightSides.{above_zero, below_zero, doubled, part_above, part_below, IsMade, IsDifference, IsProposed}
use Rattle.angle_bounds.proofs.Made.{made_free, doubled_size, part_size, above_small, below_small}

-- ---- the barrier
-- what is reached is at most twice the reach
in_reach : (n b s v : ℕ) → 0 < b → b * v ≤ n * (2 * s) → v ≤ 2 * (n * ((s + b - 1) / b))
in_reach n b s v some h =
    let c = (s + b - 1) / b in
    let whole = div-add-mod' (s + b - 1) b in
    let rest : (s + b - 1) % b < b = mod-lt (s + b - 1) some in
    let up_to : s ≤ c * b = omega arith in
    let times = mul-le-mul_left (2 * n) up_to in
    let e : v * b ≤ 2 * (n * c) * b = omega arith in
    le_of_mul-le-mul_right e some

pub barrier_of : (s : GridState) → IsSound s → (p v : List ℤ) → IsMade s (doubled s) p (classes_of s) → IsUnder s p v → IsClose s p v → IsBarrier s v
barrier_of s sound p v is under close = record {
  each_class = under.each_class;
  nonnegative = under.nonnegative;
  in_reach = All-from_get_or (λ z. z ≤ℤ pos (2 * reach_of s)) v (pos 0) (λ i h.
      let bound = under_bounded s sound p v under i (omega (arith, under.each_class)) in
      let part = supply-le-size s p is.each_class in
      let e = doubled_size s p is in
      let times = mul-le-mul_left (live_count s) (let le : supply_of s p ≤ 2 * total_susceptance_of s = omega arith in le) in
      let size = in_reach (live_count s) (least_susceptance_of s) (total_susceptance_of s) (nat_abs (at v i)) (least_positive s sound) (omega arith) in
      omega (arith, ints));
  fixed = under.fixed;
  over = λ i h on. let lt = close.close i h on in let e = made_free s (doubled s) p (classes_of s) is i h on in omega (arith, ints);
}

-- ---- the difference of two sweeps
pub difference_more : (a b w : List ℤ) (n : ℕ) (x : ℤ) → IsDifference a b w n → x ≡ at a n -ℤ at b n → IsDifference a b (w ++ x ∷ []) (n + 1)
difference_more a b w n x is e = record {
  each_class = omega (arith, length-append w (x ∷ []), is.each_class);
  values = below_more (λ i. at (w ++ x ∷ []) i ≡ at a i -ℤ at b i) n
      (λ i h. get_or_append_left w (x ∷ []) (pos 0) i (omega (arith, is.each_class)) ∙ is.values i h)
      (get_or_at w x [] (pos 0) n is.each_class ∙ e);
}

drop_over-sub : (n : ℕ) (es : List Edge) (f g h : ℕ → ℤ) (x y z : ℤ) → All (λ e. IsEdge n e) es → z ≡ x -ℤ y → ((i : ℕ) → i < n → h i ≡ f i -ℤ g i) → drop_over es h z ≡ drop_over es f x -ℤ drop_over es g y
drop_over-sub n [] f g h x y z all ez eh = refl
drop_over-sub n (e ∷ es) f g h x y z all ez eh =
    let rest = drop_over-sub n es f g h x y z (All-tail (λ e. IsEdge n e) e es all) ez eh in
    let here = All-head (λ e. IsEdge n e) e es all in
    let there = eh e.to here.leads in
    let d : z -ℤ h e.to ≡ (x -ℤ f e.to) -ℤ (y -ℤ g e.to) = omega (arith, ints) in
    let product = ap (λ (k : ℤ). pos e.b *ℤ k) d ∙ *ℤ-sub (pos e.b) (x -ℤ f e.to) (y -ℤ g e.to) in
    omega (arith, ints)

pub laplacian-difference : (s : GridState) → IsSound s → (a b w : List ℤ) → IsDifference a b w (classes_of s) → (i : ℕ) → i < classes_of s → laplacian_at s w i ≡ laplacian_at s a i -ℤ laplacian_at s b i
laplacian-difference s sound a b w is i h =
    drop_over-sub (classes_of s) (row_of s i) (at a) (at b) (at w) (at a i) (at b i) (at w i) (row_edges s sound i h) (is.values i h) is.values

parts_of : (z : ℤ) → z ≡ above_zero z -ℤ below_zero z
parts_of (pos n) = omega (arith, ints)
parts_of (negsuc n) = omega (arith, ints)

apart_times : (m : ℕ) (x y : ℤ) (k : ℕ) → pos 0 ≤ℤ x → pos 0 ≤ℤ y → m * nat_abs x ≤ k → m * nat_abs y ≤ k → m * nat_abs (x -ℤ y) ≤ k
apart_times m (pos a) (pos b) k hx hy lx ly =
    let size : nat_abs (pos a -ℤ pos b) ≤ max a b = omega (arith, ints) in
    let times = mul-le-mul_left m size in
    elim (cases_le a b) [
      | inl le ↦ let e : max a b ≡ b = omega arith in let e' = ap (λ n. m * n) e in omega arith
      | inr le ↦ let e : max a b ≡ a = omega arith in let e' = ap (λ n. m * n) e in omega arith
    ]
  where
    cases_le : (u v : ℕ) → (u ≤ v) ⊎ (v ≤ u)
    cases_le u v = grind arith
apart_times m (negsuc a) y k hx hy lx ly = absurd (omega (arith, ints))
apart_times m (pos a) (negsuc b) k hx hy lx ly = absurd (omega (arith, ints))

-- what a sweep of a part stays within
part_bounded : (s : GridState) → IsSound s → (p q a : List ℤ) → length q ≡ classes_of s → size_of q ≤ size_of p → IsUnder s q a → (i : ℕ) → i < classes_of s
    → least_susceptance_of s * nat_abs (at a i) ≤ 2 * live_count s * greater_total_of s (size_of p)
part_bounded s sound p q a same le under i h =
    let bound = under_bounded s sound q a under i h in
    let part = supply-le-size s q same in
    let fed : supply_of s q ≤ greater_total_of s (size_of p) = most (supply_of s q) (size_of p) (2 * total_susceptance_of s) (omega arith) in
    let times = mul-le-mul_left (live_count s) fed in
    omega arith
  where
    most : (x y z : ℕ) → x ≤ y → x ≤ max y z
    most x y z h = omega arith

pub proposed_of : (s : GridState) → IsSound s → (p q r a b w : List ℤ) → length p ≡ classes_of s → IsMade s (part_above p) q (classes_of s) → IsMade s (part_below p) r (classes_of s)
    → IsUnder s q a → IsClose s q a → IsUnder s r b → IsClose s r b → IsDifference a b w (classes_of s) → IsProposed s p w
proposed_of s sound p q r a b w same made_q made_r ua ca ub cb is =
    let high_a : (i : ℕ) → i < classes_of s → pos 0 ≤ℤ at a i = λ i h. All-get_or (λ z. pos 0 ≤ℤ z) a i (pos 0) (omega (arith, ua.each_class)) ua.nonnegative in
    let high_b : (i : ℕ) → i < classes_of s → pos 0 ≤ℤ at b i = λ i h. All-get_or (λ z. pos 0 ≤ℤ z) b i (pos 0) (omega (arith, ub.each_class)) ub.nonnegative in
    let size_q = part_size s (part_above p) p q made_q same (λ i. above_small (at p i)) in
    let size_r = part_size s (part_below p) p r made_r same (λ i. below_small (at p i)) in
    let bound = 2 * live_count s * greater_total_of s (size_of p) in
    record {
      each_class = is.each_class;
      small = All-from_get_or (λ z. least_susceptance_of s * nat_abs z ≤ bound) w (pos 0) (λ i h.
          let h' : i < classes_of s = omega (arith, is.each_class) in
          let one = part_bounded s sound p q a made_q.each_class size_q ua i h' in
          let two = part_bounded s sound p r b made_r.each_class size_r ub i h' in
          let both = apart_times (least_susceptance_of s) (at a i) (at b i) bound (high_a i h') (high_b i h') one two in
          let e = ap (λ (z : ℤ). least_susceptance_of s * nat_abs z) (is.values i h') in
          omega arith);
      fixed = λ i h u. let e = ua.fixed i h u in let e' = ub.fixed i h u in let d = is.values i h in omega (arith, ints);
      near = λ i h on.
          let l = laplacian-difference s sound a b w is i h in
          let at_q = made_free s (part_above p) q (classes_of s) made_q i h on in
          let at_r = made_free s (part_below p) r (classes_of s) made_r i h on in
          let whole = parts_of (at p i) in
          let u1 = ua.under i h on in
          let c1 = ca.close i h on in
          let u2 = ub.under i h on in
          let c2 = cb.close i h on in
          omega (arith, ints);
    }

-- a list that is proposed is small enough for residuals
pub proposed_small : (s : GridState) → IsSound s → (p w : List ℤ) → HasRoomFor s (size_of p) → IsProposed s p w → (i : ℕ) → i < classes_of s → is_free s i ≡ true
    → All (λ z. IsWithin (2 ^ 121) (pos (greatest_susceptance_of s) *ℤ z)) w
proposed_small s sound p w room is i h free_i =
    All-from_get_or (λ z. IsWithin (2 ^ 121) (pos (greatest_susceptance_of s) *ℤ z)) w (pos 0) (λ j hj.
    let bound = All-get_or (λ z. least_susceptance_of s * nat_abs z ≤ 2 * live_count s * greater_total_of s (size_of p)) w j (pos 0) hj is.small in
    within_scaled (greatest_susceptance_of s) (2 ^ 121) (at w j) (enclosed_small s sound (size_of p) room (free_crosses s sound i h free_i) (at w j) bound))

pub near_zero : (s : GridState) (p w : List ℤ) → ((i : ℕ) → i < classes_of s → is_free s i ≡ true → at p i -ℤ laplacian_at s w i ≡ pos 0) → IsNear s p w 0
near_zero s p w exact i h on = let e = ap nat_abs (exact i h on) in omega arith

pub zero_near : (s : GridState) (p w : List ℤ) → IsNear s p w 0 → (i : ℕ) → i < classes_of s → is_free s i ≡ true → at p i -ℤ laplacian_at s w i ≡ pos 0
zero_near s p w near i h on = let e = near i h on in omega (arith, ints)

-- a smaller total gives a smaller bound
pub encloses_more : (s : GridState) (total more : ℕ) (p : List ℤ) (angles : Angles) → total ≤ greater_total_of s more → EnclosesWithin s total p angles → EnclosesWithin s more p angles
encloses_more s total more p angles le encloses = record {
  each_class = encloses.each_class;
  small = All-weaker (λ z. least_susceptance_of s * nat_abs z ≤ 2 * live_count s * greater_total_of s total) (λ z. least_susceptance_of s * nat_abs z ≤ 2 * live_count s * greater_total_of s more)
      (λ z h.
      let less : greater_total_of s total ≤ greater_total_of s more = both total more (2 * total_susceptance_of s) le in
      let times = mul-le-mul_left (2 * live_count s) less in
      omega arith)
      angles.w encloses.small;
  fixed = encloses.fixed;
  near = encloses.near;
  at_most_one = encloses.at_most_one;
  least = encloses.least;
}
  where
    both : (x y z : ℕ) → x ≤ max y z → max x z ≤ max y z
    both x y z h = omega arith
