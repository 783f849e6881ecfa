-- The size condition bounds each list that a sweep can reach.
use Rattle.std.proofs.Common.{◌≡◌, ℕ, ◌*◌, ◌^◌, ◌<◌, ◌≤◌, max, List, length, ℤ, pos, negsuc, ◌*ℤ◌, nat_abs, ◌≤ℤ◌, arith, mul-le-mul_left, mul-le-mul_right}
use Rattle.std.proofs.lemmas.Int.{ints}
use Rattle.std.proofs.lemmas.List.Elements.{All-get_or}
use Rattle.whole_laws.specs.Sums.{at}
use Rattle.grid_state.specs.GridState.{GridState, row_of, weight, is_free, classes_of, live_count, IsSound}
use Rattle.grid_laplacian.specs.Sizes.{least_susceptance_of, greatest_susceptance_of, total_susceptance_of, supply_of, size_of}
use Rattle.grid_laplacian.specs.Ranges.{HasCrossing, HasRoomFor, greater_total_of}
use Rattle.grid_laplacian.proofs.Enclosure.{bounded}
use Rattle.grid_laplacian.proofs.Bridge.{grounded, laplacian_is}
use Rattle.grid_laplacian.proofs.LawProofs.{least_weight, fewer_free}
use Rattle.grid_laplacian.proofs.SizeCondition.{least_is, supply-le-size, room_small}
use Rattle.angle_sweeps.specs.Sweeps.{IsUnder}

-- what a sweep reaches is bounded by the size of its right side
pub under_bounded : (s : GridState) → IsSound s → (p w : List ℤ) → IsUnder s p w → (i : ℕ) → i < classes_of s
    → least_susceptance_of s * nat_abs (at w i) ≤ live_count s * supply_of s p
under_bounded s sound p w is i h =
    let b = least_susceptance_of s in
    let bound = bounded (classes_of s) (weight s) (is_free s) sound.symmetric (grounded s sound) (at p) b
    (λ x y hx hy some. least_weight b (row_of s x) ((least_is s).each x hx) y some) (at w)
    (λ j hj free_j. let e = laplacian_is s sound w j hj in let under = is.under j hj free_j in omega (arith, ints))
    (λ j hj u. let e = is.fixed j hj u in omega (arith, ints)) i h in
    let more = mul-le-mul_right (supply_of s p) (fewer_free s) in
    let high : pos 0 ≤ℤ at w i = All-get_or (λ z. pos 0 ≤ℤ z) w i (pos 0) (omega (arith, is.each_class)) is.nonnegative in
    size b (at w i) (live_count s * supply_of s p) high (omega (arith, ints))
  where
    size : (b : ℕ) (z : ℤ) (k : ℕ) → pos 0 ≤ℤ z → (pos b *ℤ z) ≤ℤ pos k → b * nat_abs z ≤ k
    size b (pos x) k high h = omega (arith, ints)
    size b (negsuc x) k high h = absurd (omega (arith, ints))

-- with room, the greatest susceptance times what is reached stays small
pub under_small : (s : GridState) → IsSound s → (p w : List ℤ) → length p ≡ classes_of s → IsUnder s p w → HasRoomFor s (size_of p) → HasCrossing s → (j : ℕ) → j < classes_of s
    → greatest_susceptance_of s * nat_abs (at w j) ≤ 2 ^ 120
under_small s sound p w same is room cross j h =
    let bound = under_bounded s sound p w is j h in
    let fed = supply-le-size s p same in
    let up_to : supply_of s p ≤ greater_total_of s (size_of p) = most (supply_of s p) (size_of p) (2 * total_susceptance_of s) fed in
    let more = mul-le-mul_left (live_count s) up_to in
    room_small s sound (size_of p) room cross (at w j) (omega arith)
  where
    most : (x y z : ℕ) → x ≤ y → x ≤ max y z
    most x y z h = omega arith
