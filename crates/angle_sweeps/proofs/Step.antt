-- What one step of a sweep does.
use Rattle.std.proofs.Common.{◌≡◌, ℕ, ◌+◌, ◌*◌, ◌/◌, ◌%◌, ◌^◌, ◌<◌, ◌≤◌, true, List, length, set, All, ℤ, pos, negsuc, ◌+ℤ◌, ◌-ℤ◌, ◌*ℤ◌, nat_abs, ◌≤ℤ◌, ◌<ℤ◌, FitsSigned, arith, mul-le-mul_right, div-add-mod', div-mul-le_self, get_or-set_same}
use Rattle.std.proofs.lemmas.Int.{ints, fits_signed_from_abs}
use Rattle.std.proofs.lemmas.List.Elements.{All-get_or, All-from_get_or}
use Rattle.std.proofs.lemmas.List.Sums.{sum_by-set}
use mir.Syntax.{w128}
use Rattle.whole_laws.specs.Sums.{at, IsWithin}
use Rattle.grid_state.specs.GridState.{GridState, is_free, classes_of, susceptance_of, IsSound}
use Rattle.grid_laplacian.specs.Laws.{laplacian_at}
use Rattle.grid_laplacian.specs.Sizes.{greatest_susceptance_of, size_of}
use Rattle.grid_laplacian.proofs.Crossings.{susceptance_positive, susceptance-le-greatest, free_crosses}
use Rattle.angle_sweeps.specs.Sweeps.{IsUnder}
use Rattle.angle_sweeps.specs.Rounds.{IsRightSide}
use Rattle.angle_sweeps.proofs.Raised.{step_under, raised_at}
use Rattle.grid_laplacian.proofs.SizeCondition.{within_scaled, right_side_small}
use Rattle.angle_sweeps.proofs.Room.{under_small}

-- by how much w rises at a class
abbrev pub steps : GridState → List ℤ → List ℤ → ℕ → ℕ
steps s p w i = nat_abs (at p i -ℤ laplacian_at s w i) / susceptance_of s i

pub record Steps (s : GridState) (p w : List ℤ) (i : ℕ) : Type 0 where
  pub some : 0 < susceptance_of s i
  pub p_small : All (λ z. IsWithin (2 ^ 121) z) p
  pub w_small : All (λ z. IsWithin (2 ^ 121) (pos (greatest_susceptance_of s) *ℤ z)) w
  pub nonnegative : pos 0 ≤ℤ (at p i -ℤ laplacian_at s w i)
  pub under : IsUnder s p (set w i (at w i +ℤ pos (steps s p w i)))
  pub close : (at p i -ℤ laplacian_at s (set w i (at w i +ℤ pos (steps s p w i))) i) <ℤ pos (susceptance_of s i)
  pub here_fits : FitsSigned w128 (at w i)
  pub fits : FitsSigned w128 (at w i +ℤ pos (steps s p w i))
  pub larger : size_of (set w i (at w i +ℤ pos (steps s p w i))) ≡ size_of w + steps s p w i

high_part : (z : ℤ) (s : ℕ) → pos 0 ≤ℤ z → 0 < s → pos (nat_abs z / s * s) ≤ℤ z
high_part (pos a) s h some = let e = div-mul-le_self a s in omega (arith, ints)
high_part (negsuc a) s h some = absurd (omega (arith, ints))

rest_part : (z : ℤ) (s : ℕ) → pos 0 ≤ℤ z → 0 < s → (z -ℤ pos (nat_abs z / s * s)) <ℤ pos s
rest_part (pos a) s h some = let e = div-add-mod' a s in let lt : a % s < s = omega arith in omega (arith, ints)
rest_part (negsuc a) s h some = absurd (omega (arith, ints))

fits_of : (s : ℕ) (z : ℤ) → 0 < s → s * nat_abs z ≤ 2 ^ 120 → FitsSigned w128 z
fits_of s z some h = let one = mul-le-mul_right (nat_abs z) some in fits_signed_from_abs w128 z (omega arith)

grows : (w : List ℤ) (i k : ℕ) → i < length w → pos 0 ≤ℤ at w i → size_of (set w i (at w i +ℤ pos k)) ≡ size_of w + k
grows w i k h high =
    let e = sum_by-set nat_abs w i (at w i +ℤ pos k) (pos 0) h in
    let e' : nat_abs (at w i +ℤ pos k) ≡ nat_abs (at w i) + k = omega (arith, ints) in
    omega arith

pub steps_of : (s : GridState) → IsSound s → (p w : List ℤ) → IsRightSide s p → IsUnder s p w → (i : ℕ) → i < classes_of s → is_free s i ≡ true → Steps s p w i
steps_of s sound p w right is i h free_i =
    let g = greatest_susceptance_of s in
    let cross = free_crosses s sound i h free_i in
    let some = susceptance_positive s sound i h free_i in
    let g_some : 0 < g = let most = susceptance-le-greatest s i h free_i in omega arith in
    let before = is.under i h free_i in
    let high : pos 0 ≤ℤ (at p i -ℤ laplacian_at s w i) = omega (arith, ints) in
    let next = step_under s sound p w is i (steps s p w i) h free_i (high_part (at p i -ℤ laplacian_at s w i) (susceptance_of s i) high some) in
    let same = is.each_class in
    let w_high : pos 0 ≤ℤ at w i = All-get_or (λ z. pos 0 ≤ℤ z) w i (pos 0) (omega arith) is.nonnegative in
    let now = under_small s sound p (set w i (at w i +ℤ pos (steps s p w i))) right.each_class next right.room cross i h in
    let set_there : at (set w i (at w i +ℤ pos (steps s p w i))) i ≡ at w i +ℤ pos (steps s p w i) = get_or-set_same w i (at w i +ℤ pos (steps s p w i)) (pos 0) (omega arith) in
    record {
      some = some;
      p_small = right_side_small s sound p right.room i h free_i;
      w_small = All-from_get_or (λ z. IsWithin (2 ^ 121) (pos g *ℤ z)) w (pos 0) (λ j hj.
          let fine = under_small s sound p w right.each_class is right.room cross j (omega arith) in
          within_scaled g (2 ^ 121) (at w j) (omega arith));
      nonnegative = high;
      under = next;
      close =
          let e = raised_at s sound w i (steps s p w i) same h in
          let r = rest_part (at p i -ℤ laplacian_at s w i) (susceptance_of s i) high some in
          omega (arith, ints);
      here_fits = fits_of g (at w i) g_some (under_small s sound p w right.each_class is right.room cross i h);
      fits = fits_of g (at w i +ℤ pos (steps s p w i)) g_some (rw set_there at now);
      larger = grows w i (steps s p w i) (omega arith) w_high;
    }
