-- The numbers of a column or a barrier that is in its bounds are small enough for residuals.
use Rattle.std.proofs.Common.{◌≡◌, ℕ, ◌*◌, ◌^◌, ◌<◌, ◌≤◌, ◌/◌, Bool, true, List, All, ℤ, pos, ◌*ℤ◌, ◌-ℤ◌, ◌≤ℤ◌, nat_abs, arith, sym, subst, mul-le-mul_right}
use Rattle.std.specs.Prelude.{unsigned_abs, IsTrue}
use Rattle.std.proofs.Math.Nat.{le-div_iff_mul-le}
use Rattle.std.proofs.lemmas.Int.{ints}
use Rattle.std.proofs.lemmas.List.Elements.{All-get_or, All-from_get_or, All-weaker}
use Rattle.whole_laws.specs.Sums.{at, IsWithin}
use Rattle.grid_state.specs.GridState.{GridState, classes_of, is_free, live_count, IsSound}
use Rattle.grid_laplacian.specs.Sizes.{least_susceptance_of, greatest_susceptance_of, size_of}
use Rattle.grid_laplacian.specs.Ranges.{HasRoomFor, greatest_total_of, reach_of}
use Rattle.grid_laplacian.proofs.Crossings.{free_crosses, crossing_positive}
use Rattle.grid_laplacian.proofs.SizeCondition.{right_side_small, enclosed_small, barrier_small, within_scaled, within_size}
use Rattle.state_proofs.proofs.Rooms.{room_for}
use Rattle.grid_laplacian.proofs.SizeLoops.{least_positive}
use Rattle.certificate_check.specs.Bounded.{IsBounded, IsSmall, IsRanged}

pub bounded_small : (s : GridState) → IsSound s → (w : List ℤ) → HasRoomFor s (2 * 10 ^ 25) → IsBounded s w → (i : ℕ)
    → i < classes_of s → is_free s i ≡ true
    → All (λ z. IsWithin (2 ^ 121) (pos (greatest_susceptance_of s) *ℤ z)) w
bounded_small s sound w room is i h free_i =
    All-from_get_or (λ z. IsWithin (2 ^ 121) (pos (greatest_susceptance_of s) *ℤ z)) w (pos 0) (λ j hj.
    let bound = All-get_or (λ z. least_susceptance_of s * nat_abs z ≤ 2 * live_count s * greatest_total_of s) w j
    (pos 0) hj is.small in
    within_scaled (greatest_susceptance_of s) (2 ^ 121) (at w j)
    (enclosed_small s sound (2 * 10 ^ 25) room (free_crosses s sound i h free_i) (at w j) bound))

pub side_small : (s : GridState) → IsSound s → (p : List ℤ) → HasRoomFor s (2 * 10 ^ 25) → size_of p ≤ 2 * 10 ^ 25
    → (i : ℕ) → i < classes_of s → is_free s i ≡ true → All (λ z. IsWithin (2 ^ 121) z) p
side_small s sound p room size i h free_i = right_side_small s sound p (room_for s (size_of p) room size) i h free_i

pub ranged_scaled : (s : GridState) → IsSound s → (v : List ℤ) → HasRoomFor s (2 * 10 ^ 25) → IsRanged s v → (i : ℕ)
    → i < classes_of s → is_free s i ≡ true
    → All (λ z. IsWithin (2 ^ 121) (pos (greatest_susceptance_of s) *ℤ z)) v
ranged_scaled s sound v room is i h free_i =
    All-from_get_or (λ z. IsWithin (2 ^ 121) (pos (greatest_susceptance_of s) *ℤ z)) v (pos 0) (λ j hj.
    let high = All-get_or (λ z. pos 0 ≤ℤ z) v j (pos 0) hj is.nonnegative in
    let in_reach = All-get_or (λ z. z ≤ℤ pos (2 * reach_of s)) v j (pos 0) hj is.in_reach in
    within_scaled (greatest_susceptance_of s) (2 ^ 121) (at v j)
    (barrier_small s sound (2 * 10 ^ 25) room (free_crosses s sound i h free_i) (at v j) high in_reach))

-- a size within the rounded bound
pub under_quotient : (x y k : ℕ) → 0 < k → (x ≤ y / k → k * x ≤ y) × (k * x ≤ y → x ≤ y / k)
under_quotient x y k some =
    let way = le-div_iff_mul-le {k = k} {x = x} {y = y} some in
    ((λ h. let p = way.0 h in omega (arith, p)), (λ h. way.1 (omega (arith, h))))

pub small_within : (s : GridState) → IsSound s → (w : List ℤ) (most : ℕ)
    → most ≡ 2 * live_count s * greatest_total_of s / least_susceptance_of s
    → (All (λ z. unsigned_abs z ≤ most) w → IsSmall s w) × (IsSmall s w → All (λ z. unsigned_abs z ≤ most) w)
small_within s sound w most e =
    let y = 2 * live_count s * greatest_total_of s in
    let k = least_susceptance_of s in
    let P = λ (z : ℤ). unsigned_abs z ≤ most in
    let Q = λ (z : ℤ). k * unsigned_abs z ≤ y in (
      All-weaker P Q (λ z h. (under_quotient (unsigned_abs z) y k (least_positive s sound)).0
          (subst (λ (n : ℕ). unsigned_abs z ≤ n) e h)) w,
      All-weaker Q P (λ z h. subst (λ (n : ℕ). unsigned_abs z ≤ n) (sym e)
          ((under_quotient (unsigned_abs z) y k (least_positive s sound)).1 h)) w,
    )

pub ranged_small : (s : GridState) → IsSound s → (v : List ℤ) → HasRoomFor s (2 * 10 ^ 25) → IsRanged s v → (i : ℕ)
    → i < classes_of s → is_free s i ≡ true → All (λ z. IsWithin (2 ^ 121) z) v
ranged_small s sound v room is i h free_i =
    All-from_get_or (λ z. IsWithin (2 ^ 121) z) v (pos 0) (λ j hj.
    let high = All-get_or (λ z. pos 0 ≤ℤ z) v j (pos 0) hj is.nonnegative in
    let in_reach = All-get_or (λ z. z ≤ℤ pos (2 * reach_of s)) v j (pos 0) hj is.in_reach in
    let cross = free_crosses s sound i h free_i in
    let some = crossing_positive s sound cross in
    within_size (2 ^ 121) (at v j) (size (greatest_susceptance_of s) (at v j) some
    (barrier_small s sound (2 * 10 ^ 25) room cross (at v j) high in_reach)))
  where
    size : (g : ℕ) (z : ℤ) → 0 < g → g * nat_abs z ≤ 2 ^ 121 → nat_abs z ≤ 2 ^ 121
    size g z some le = let one = mul-le-mul_right (nat_abs z) some in omega arith

pub steep : (here left x drop susceptance s : ℤ) (b : Bool) → (IsTrue b → susceptance ≤ℤ (here -ℤ left))
    × (susceptance ≤ℤ (here -ℤ left) → IsTrue b)
    → here ≡ x → left ≡ x -ℤ drop → susceptance ≡ s → (IsTrue b → s ≤ℤ drop) × (s ≤ℤ drop → IsTrue b)
steep here left x drop susceptance s b h a e f =
    ((λ t. let p = h.0 t in omega (arith, ints, p, a, e, f)), (λ l. h.1 (omega (arith, ints, l, a, e, f))))
