-- The limit of a guess fits, and keeps it small.
use Rattle.std.proofs.Common.{◌≡◌, ℕ, ◌+◌, ◌*◌, ◌/◌, ◌^◌, ◌<◌, ◌≤◌, max, false, List, [], ◌∷◌, ◌++◌, length-append, below_more, All, ℤ, pos, nat_abs, arith, mul-le-mul_left, div-mul-le_self, ◌∙◌}
use Rattle.std.proofs.lemmas.List.{get_or_append_left, get_or_at}
use Rattle.std.proofs.lemmas.List.Elements.{All-append, All-weaker}
use Rattle.std.proofs.Math.Nat.{div-le_self, mul-div-le}
use Rattle.whole_laws.specs.Sums.{at}
use Rattle.grid_state.specs.GridState.{GridState, classes_of, is_free, live_count}
use Rattle.grid_laplacian.specs.Sizes.{least_susceptance_of, greatest_susceptance_of, total_susceptance_of}
use Rattle.grid_laplacian.specs.Ranges.{HasRoomFor, greater_total_of}
use Rattle.grid_laplacian.proofs.Crossings.{positive_crosses, least-le-greatest}
use Rattle.sparse_factor.specs.Guesses.{IsGuess}
use Rattle.sparse_factor.specs.Bounds.{IsLimit, AreBounded}

pub most_small : (s : GridState) (total : ℕ) → HasRoomFor s total → 0 < greatest_susceptance_of s → 2 * live_count s * greater_total_of s total ≤ 2 ^ 121
most_small s total room some =
    let g = greatest_susceptance_of s in
    let fits = room (positive_crosses s some) in
    let le = least-le-greatest s some in
    let back : 2 ^ 120 / g * g ≤ 2 ^ 120 = div-mul-le_self (2 ^ 120) g in
    let times = mul-le-mul_left (2 ^ 120 / g) le in
    omega arith

pub quotient_small : (m b : ℕ) → m ≤ 2 ^ 121 → m / b ≤ 2 ^ 121
quotient_small m b h = let less = div-le_self m b in omega arith

pub limit_is : (s : GridState) (total : ℕ) → HasRoomFor s total → 0 < greatest_susceptance_of s
    → IsLimit s total (2 * live_count s * greater_total_of s total / least_susceptance_of s)
limit_is s total room some =
    let m = 2 * live_count s * greater_total_of s total in
    let b = least_susceptance_of s in
    let small = quotient_small m b (most_small s total room some) in
    record { high = small; small = mul-div-le m b }

-- where no carrying branch joins two classes
pub no_limit : (s : GridState) (total : ℕ) → IsLimit s total 0
no_limit s total = record { high = omega arith; small = omega arith }

-- one angle more
pub bounded_more : (s : GridState) (limit : ℕ) (w : List ℤ) (n : ℕ) (z : ℤ) → AreBounded s limit w n → nat_abs z ≤ limit → (is_free s n ≡ false → z ≡ pos 0)
    → AreBounded s limit (w ++ z ∷ []) (n + 1)
bounded_more s limit w n z is small held = record {
  each_class = omega (arith, length-append w (z ∷ []), is.each_class);
  within = All-append (λ x. nat_abs x ≤ limit) w (z ∷ []) is.within (All-one small);
  fixed = below_more (λ i. is_free s i ≡ false → at (w ++ z ∷ []) i ≡ pos 0) n
      (λ i h u. get_or_append_left w (z ∷ []) (pos 0) i (omega (arith, is.each_class)) ∙ is.fixed i h u)
      (λ u. get_or_at w z [] (pos 0) n is.each_class ∙ held u);
}
  where
    All-one : nat_abs z ≤ limit → All (λ x. nat_abs x ≤ limit) (z ∷ [])
    All-one h = grind arith

-- the whole is a guess
pub guess_is : (s : GridState) (size total limit : ℕ) (w : List ℤ) → total ≤ size → IsLimit s total limit → AreBounded s limit w (classes_of s) → IsGuess s size w
guess_is s size total limit w le is bounded = record {
  each_class = bounded.each_class;
  small = All-weaker (λ z. nat_abs z ≤ limit) (λ z. least_susceptance_of s * nat_abs z ≤ 2 * live_count s * greater_total_of s size)
      (λ z h.
      let less : greater_total_of s total ≤ greater_total_of s size = both total size (2 * total_susceptance_of s) le in
      let times = mul-le-mul_left (2 * live_count s) less in
      let within = mul-le-mul_left (least_susceptance_of s) h in
      let limited = is.small in
      omega arith)
      w bounded.within;
  fixed = bounded.fixed;
}
  where
    both : (x y z : ℕ) → x ≤ y → max x z ≤ max y z
    both x y z h = omega arith
