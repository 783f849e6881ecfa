-- What the size condition gives: where a carrying branch joins two classes, right sides, angles and barriers stay small.
use Rattle.std.proofs.Common.{◌≡◌, ℕ, zero, suc, ◌+◌, ◌-◌, ◌*◌, ◌/◌, ◌^◌, ◌<◌, ◌≤◌, max, Bool, true, false, cond, List, [], ◌∷◌, length, All, ℤ, pos, ◌+ℤ◌, ◌-ℤ◌, ◌*ℤ◌, nat_abs, ◌≤ℤ◌, arith, mul-le-mul_left, mul-le-mul_right, le_of_mul-le-mul_right, div-mul-le_self, ap, FitsSigned, ◌⊎◌, inl, inr}
use Rattle.std.proofs.lemmas.Int.{ints, unsigned_abs-mul, fits_signed_from_abs}
use Rattle.std.proofs.lemmas.Bool.{cases_Bool, cond-true}
use Rattle.std.proofs.lemmas.List.Elements.{All-get_or, All-from_get_or}
use Rattle.std.proofs.lemmas.List.Sums.{get_or-le-sum_by}
use mir.Syntax.{w128}
use Rattle.whole_laws.specs.Sums.{total_below, at, IsWithin}
use Rattle.whole_laws.specs.TotalLaws.{total_below-le, term-le-total_below}
use Rattle.fb_types.specs.declared.rows.Angles.{Angles}
use Rattle.grid_state.specs.declared.types.Edge.{Edge}
use Rattle.grid_state.specs.GridState.{GridState, row_of, is_free, classes_of, live_count, susceptance_of, IsSound}
use Rattle.grid_laplacian.specs.Sizes.{least_over, free_susceptance_of, least_susceptance_of, greatest_susceptance_of, total_susceptance_of, supply_of, size_of, IsAtMostEach}
use Rattle.grid_laplacian.specs.Ranges.{HasCrossing, HasRoomFor, greater_total_of, reach_of}
use Rattle.grid_laplacian.specs.Enclosures.{IsBarrier, EnclosesWithin, angle_span_of}
use Rattle.grid_laplacian.proofs.LawProofs.{fewer_free, total_of_list}
use Rattle.grid_laplacian.proofs.SizeLoops.{least_positive}
use Rattle.grid_laplacian.proofs.Crossings.{free_crosses, crossing_positive, least-le-greatest, least_below-le, least-le-susceptance, counted}

least_in_row : (es : List Edge) (b : ℕ) → b ≤ least_over es → All (λ e. b ≤ e.b) es
least_in_row [] b le k d h = absurd (omega arith)
least_in_row (e ∷ es) b le zero d h = omega arith
least_in_row (e ∷ es) b le (suc k) d h = least_in_row es b (omega arith) k d (omega arith)

-- the least susceptance is at most each
pub least_is : (s : GridState) → IsAtMostEach s (least_susceptance_of s)
least_is s = record { each = λ i h. least_in_row (row_of s i) (least_susceptance_of s) (least_below-le (classes_of s) (λ j. least_over (row_of s j)) i h) }

-- what is fed in is a part of the whole size
pub supply-le-size : (s : GridState) (p : List ℤ) → length p ≡ classes_of s → supply_of s p ≤ size_of p
supply-le-size s p same =
    let part = total_below-le (classes_of s) (λ i. cond (is_free s i) (nat_abs (at p i)) 0) (λ i. nat_abs (at p i)) (λ i h. less (is_free s i) (nat_abs (at p i))) in
    let list = total_of_list nat_abs p (pos 0) in
    let ranged = ap (λ (n : ℕ). total_below n (λ i. nat_abs (at p i))) same in
    omega arith
  where
    less : (b : Bool) (x : ℕ) → cond b x 0 ≤ x
    less true x = omega arith
    less false x = omega arith

-- ---- room for less
pub room_for_less : (s : GridState) (total more : ℕ) → total ≤ greater_total_of s more → HasRoomFor s more → HasRoomFor s total
room_for_less s total more le room cross =
    let fits = room cross in
    let less : greater_total_of s total ≤ greater_total_of s more = both total more (2 * total_susceptance_of s) le in
    let times = mul-le-mul_left (live_count s) less in
    omega arith
  where
    both : (x y z : ℕ) → x ≤ max y z → max x z ≤ max y z
    both x y z h = omega arith

-- ---- with room, all stays small
pub room_small : (s : GridState) → IsSound s → (total : ℕ) → HasRoomFor s total → HasCrossing s → (z : ℤ)
    → least_susceptance_of s * nat_abs z ≤ live_count s * greater_total_of s total → greatest_susceptance_of s * nat_abs z ≤ 2 ^ 120
room_small s sound total room cross z h =
    let g = greatest_susceptance_of s in
    let b = least_susceptance_of s in
    let fits = room cross in
    let up_to : nat_abs z * b ≤ 2 ^ 120 / g * b = omega arith in
    let quotient : nat_abs z ≤ 2 ^ 120 / g = le_of_mul-le-mul_right up_to (least_positive s sound) in
    let back : 2 ^ 120 / g * g ≤ 2 ^ 120 = div-mul-le_self (2 ^ 120) g in
    let times = mul-le-mul_right g quotient in
    omega arith

pub within_scaled : (g m : ℕ) (z : ℤ) → g * nat_abs z ≤ m → IsWithin m (pos g *ℤ z)
within_scaled g m z h =
    let size : nat_abs (pos g *ℤ z) ≡ g * nat_abs z = unsigned_abs-mul (pos g) z in
    record { low = omega (arith, ints); high = omega (arith, ints) }

pub within_size : (m : ℕ) (z : ℤ) → nat_abs z ≤ m → IsWithin m z
within_size m z h = record { low = omega (arith, ints); high = omega (arith, ints) }

some_live : (s : GridState) → (i : ℕ) → i < classes_of s → is_free s i ≡ true → 0 < live_count s
some_live s i h free_i =
    let part = term-le-total_below (classes_of s) (λ c. cond (is_free s c) 1 0) i h in
    let one = cond-true {A = ℕ} (is_free s i) 1 0 free_i in
    let few = fewer_free s in
    omega arith

-- where a class has an equation, the whole right side is within 2^120
pub total_small : (s : GridState) → IsSound s → (total : ℕ) → HasRoomFor s total → (i : ℕ) → i < classes_of s → is_free s i ≡ true → total ≤ 2 ^ 120
total_small s sound total room i h free_i =
    let cross = free_crosses s sound i h free_i in
    let g = greatest_susceptance_of s in
    let b = least_susceptance_of s in
    let fits = room cross in
    let le : b ≤ g = least-le-greatest s (crossing_positive s sound cross) in
    let back : 2 ^ 120 / g * g ≤ 2 ^ 120 = div-mul-le_self (2 ^ 120) g in
    let times = mul-le-mul_left (2 ^ 120 / g) le in
    let live : 1 ≤ live_count s = some_live s i h free_i in
    let once = mul-le-mul_right (greater_total_of s total) live in
    let part : total ≤ greater_total_of s total = most total (2 * total_susceptance_of s) in
    omega arith
  where
    most : (x y : ℕ) → x ≤ max x y
    most x y = omega arith

pub right_side_small : (s : GridState) → IsSound s → (p : List ℤ) → HasRoomFor s (size_of p) → (i : ℕ) → i < classes_of s → is_free s i ≡ true → All (λ z. IsWithin (2 ^ 121) z) p
right_side_small s sound p room i h free_i =
    All-from_get_or (λ z. IsWithin (2 ^ 121) z) p (pos 0) (λ j hj.
    let whole = total_small s sound (size_of p) room i h free_i in
    let part : nat_abs (at p j) ≤ size_of p = get_or-le-sum_by nat_abs p j (pos 0) hj in
    within_size (2 ^ 121) (at p j) (omega arith))

-- the same of a list within the bound of an enclosed column
pub enclosed_small : (s : GridState) → IsSound s → (total : ℕ) → HasRoomFor s total → HasCrossing s → (z : ℤ)
    → least_susceptance_of s * nat_abs z ≤ 2 * live_count s * greater_total_of s total → greatest_susceptance_of s * nat_abs z ≤ 2 ^ 121
enclosed_small s sound total room cross z h =
    let g = greatest_susceptance_of s in
    let b = least_susceptance_of s in
    let fits = room cross in
    let up_to : nat_abs z * b ≤ (2 * (2 ^ 120 / g)) * b = omega arith in
    let quotient : nat_abs z ≤ 2 * (2 ^ 120 / g) = le_of_mul-le-mul_right up_to (least_positive s sound) in
    let back : 2 ^ 120 / g * g ≤ 2 ^ 120 = div-mul-le_self (2 ^ 120) g in
    let times = mul-le-mul_right g quotient in
    omega arith

-- where a carrying branch joins two classes, the least susceptance is at most the sum over the classes
pub least-le-total : (s : GridState) → IsSound s → HasCrossing s → least_susceptance_of s ≤ total_susceptance_of s
least-le-total s sound cross =
    let c = counted s (crossing_positive s sound cross) in
    let least = least-le-susceptance s c.class c.class_below c.some in
    let part = term-le-total_below (classes_of s) (free_susceptance_of s) c.class c.class_below in
    let e = cond-true {A = ℕ} (is_free s c.class) (susceptance_of s c.class) 0 c.free in
    omega arith

-- and of a barrier
pub barrier_small : (s : GridState) → IsSound s → (total : ℕ) → HasRoomFor s total → HasCrossing s → (z : ℤ) → pos 0 ≤ℤ z → z ≤ℤ pos (2 * reach_of s)
    → greatest_susceptance_of s * nat_abs z ≤ 2 ^ 121
barrier_small s sound total room cross z high in_reach =
    let g = greatest_susceptance_of s in
    let b = least_susceptance_of s in
    let t = total_susceptance_of s in
    let n = live_count s in
    let fits = room cross in
    let least = least-le-total s sound cross in
    let quotient : (t + b - 1) / b * b ≤ t + b - 1 = div-mul-le_self (t + b - 1) b in
    let size : nat_abs z ≤ 2 * (n * ((t + b - 1) / b)) = omega (arith, ints) in
    let times = mul-le-mul_right b size in
    let twice = mul-le-mul_left n quotient in
    let sums = mul-le-mul_left n least in
    let more = mul-le-mul_left n (most total (2 * t)) in
    let some : 1 ≤ b = least_positive s sound in
    let less : n * (t + b - 1) ≤ n * (t + b) = mul-le-mul_left n (fewer (t + b)) in
    let up_to : nat_abs z * b ≤ (2 * (2 ^ 120 / g)) * b = omega arith in
    let whole : nat_abs z ≤ 2 * (2 ^ 120 / g) = le_of_mul-le-mul_right up_to some in
    let back : 2 ^ 120 / g * g ≤ 2 ^ 120 = div-mul-le_self (2 ^ 120) g in
    let last = mul-le-mul_right g whole in
    omega arith
  where
    most : (x y : ℕ) → y ≤ max x y
    most x y = omega arith

    fewer : (x : ℕ) → x - 1 ≤ x
    fewer x = omega arith

-- the ends of the spans of angles fit
pub ends_fit : (s : GridState) → IsSound s → (total : ℕ) → HasRoomFor s total → (v p : List ℤ) (angles : Angles) → IsBarrier s v → EnclosesWithin s total p angles → (i : ℕ) → i < classes_of s
    → FitsSigned w128 (angle_span_of v angles i).0 × FitsSigned w128 (angle_span_of v angles i).1
ends_fit s sound total room v p angles barrier encloses i h =
    let small = sizes (cases_Bool (is_free s i)) in
    two_ends angles.kappa (at angles.w i) (at v i) encloses.at_most_one small.0 small.1
  where
    size : (g : ℕ) (z : ℤ) → 0 < g → g * nat_abs z ≤ 2 ^ 121 → nat_abs z ≤ 2 ^ 121
    size g z some le = let one = mul-le-mul_right (nat_abs z) some in omega arith

    sizes : ((is_free s i ≡ true) ⊎ (is_free s i ≡ false)) → (nat_abs (at angles.w i) ≤ 2 ^ 121) × (nat_abs (at v i) ≤ 2 ^ 121)
    sizes (inr held) = (let e = encloses.fixed i h held in omega (arith, ints), let e = barrier.fixed i h held in omega (arith, ints))
    sizes (inl free_i) =
        let cross = free_crosses s sound i h free_i in
        let some = crossing_positive s sound cross in
        let w_length = encloses.each_class in
        let v_length = barrier.each_class in
        let w_small = All-get_or (λ z. least_susceptance_of s * nat_abs z ≤ 2 * live_count s * greater_total_of s total) angles.w i (pos 0) (omega arith) encloses.small in
        let high = All-get_or (λ z. pos 0 ≤ℤ z) v i (pos 0) (omega arith) barrier.nonnegative in
        let in_reach = All-get_or (λ z. z ≤ℤ pos (2 * reach_of s)) v i (pos 0) (omega arith) barrier.in_reach in (
          size (greatest_susceptance_of s) (at angles.w i) some (enclosed_small s sound total room cross (at angles.w i) w_small),
          size (greatest_susceptance_of s) (at v i) some (barrier_small s sound total room cross (at v i) high in_reach),
        )

    two_ends : (k : ℕ) (w v : ℤ) → k ≤ 1 → nat_abs w ≤ 2 ^ 121 → nat_abs v ≤ 2 ^ 121 → FitsSigned w128 (w -ℤ pos k *ℤ v) × FitsSigned w128 (w +ℤ pos k *ℤ v)
    two_ends zero w v le hw hv =
        let none : pos 0 *ℤ v ≡ pos 0 = omega (arith, ints) in
        (rw none (fits_signed_from_abs w128 (w -ℤ pos 0) (omega (arith, ints))), rw none (fits_signed_from_abs w128 (w +ℤ pos 0) (omega (arith, ints))))
    two_ends (suc zero) w v le hw hv =
        let one : pos 1 *ℤ v ≡ v = omega (arith, ints) in
        (rw one (fits_signed_from_abs w128 (w -ℤ v) (omega (arith, ints))), rw one (fits_signed_from_abs w128 (w +ℤ v) (omega (arith, ints))))
    two_ends (suc (suc k)) w v le hw hv = absurd (omega arith)
