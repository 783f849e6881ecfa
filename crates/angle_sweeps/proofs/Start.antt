-- Where a sweep starts, and how far it can go.
use Rattle.std.proofs.Common.{◌≡◌, ℕ, zero, suc, ◌*◌, ◌≤◌, List, [], ◌∷◌, length, replicate, All, ℤ, pos, ◌-ℤ◌, nat_abs, ◌≤ℤ◌, arith, mul-le-mul_right, refl, ap, ◌∙◌}
use Rattle.std.proofs.lemmas.Int.{ints}
use Rattle.std.proofs.lemmas.List.{length-replicate}
use Rattle.std.proofs.lemmas.List.Elements.{All-replicate, All-get_or, All-from_get_or}
use Rattle.std.proofs.lemmas.List.Sums.{sum_by-le}
use Rattle.whole_laws.specs.Sums.{at}
use Rattle.grid_state.specs.declared.types.Edge.{Edge}
use Rattle.grid_state.specs.GridState.{GridState, row_of, classes_of, live_count, IsSound}
use Rattle.grid_laplacian.specs.Laws.{drop_over}
use Rattle.grid_laplacian.specs.Sizes.{supply_of, size_of}
use Rattle.grid_laplacian.proofs.SizeLoops.{least_positive}
use Rattle.angle_sweeps.specs.Sweeps.{IsUnder}
use Rattle.angle_sweeps.proofs.Room.{under_bounded}

zeros : (n i : ℕ) → at (replicate n (pos 0)) i ≡ pos 0
zeros zero i = refl
zeros (suc n) zero = refl
zeros (suc n) (suc i) = zeros n i

no_drop : (es : List Edge) (f : ℕ → ℤ) (x : ℤ) → x ≡ pos 0 → ((i : ℕ) → f i ≡ pos 0) → drop_over es f x ≡ pos 0
no_drop [] f x ex ef = refl
no_drop (e ∷ es) f x ex ef =
    let rest = no_drop es f x ex ef in
    let z : x -ℤ f e.to ≡ pos 0 = let there = ef e.to in omega (arith, ints) in
    rw (z, rest) (omega (arith, ints))

pub start_under : (s : GridState) (p w : List ℤ) (n : ℕ) → w ≡ replicate n (pos 0) → n ≡ classes_of s → length p ≡ classes_of s → All (λ z. pos 0 ≤ℤ z) p → IsUnder s p w
start_under s p w n same size p_length high = rw same (record {
  each_class = length-replicate n (pos 0) ∙ size;
  nonnegative = All-replicate (λ z. pos 0 ≤ℤ z) n (pos 0) (omega (arith, ints));
  fixed = λ i h u. zeros n i;
  under = λ i h is.
      let flat = no_drop (row_of s i) (at (replicate n (pos 0))) (at (replicate n (pos 0)) i) (zeros n i) (zeros n) in
      let here : pos 0 ≤ℤ at p i = All-get_or (λ z. pos 0 ≤ℤ z) p i (pos 0) (omega arith) high in
      omega (arith, ints);
})

-- the most that a sweep can sum to
abbrev pub most : GridState → List ℤ → ℕ
most s p = classes_of s * (live_count s * supply_of s p)

pub size-le-most : (s : GridState) → IsSound s → (p w : List ℤ) → IsUnder s p w → size_of w ≤ most s p
size-le-most s sound p w is =
    let k = live_count s * supply_of s p in
    let each : All (λ z. nat_abs z ≤ k) w = All-from_get_or (λ z. nat_abs z ≤ k) w (pos 0) (λ i h.
    let bound = under_bounded s sound p w is i (let same = is.each_class in omega arith) in
    let one = mul-le-mul_right (nat_abs (at w i)) (least_positive s sound) in
    omega arith) in
    let whole = sum_by-le nat_abs k w each in
    let same = ap (λ n. n * k) is.each_class in
    omega arith
