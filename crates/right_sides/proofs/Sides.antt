-- The lists that the code ends with are the right sides.
use Rattle.std.proofs.Common.{◌≡◌, ℕ, ◌^◌, ◌<◌, List, length, replicate, ℤ, pos, ◌+ℤ◌, ◌*ℤ◌, ap, ◌∙◌, arith}
use Rattle.std.proofs.lemmas.Int.{ints}
use Rattle.std.proofs.lemmas.List.{length-replicate, get_or-replicate}
use Rattle.whole_laws.specs.Ring.{linear}
use Rattle.whole_laws.specs.Sums.{at}
use Rattle.fb_types.specs.declared.grid.Grid.{Grid}
use Rattle.fb_types.specs.declared.keys.Block.{Block}
use Rattle.grid_state.specs.GridState.{GridState, classes_of}
use Rattle.security.specs.Balances.{of_class, injection_at, shifts_at, weight_at, reference_side, block_side}
use Rattle.right_sides.specs.Raised.{IsRaised}
use Rattle.right_sides.proofs.Classes.{listed}

-- a list with what the function gives for each class
pub record HasNumbers (s : GridState) (p : List ℤ) (f : ℕ → ℤ) : Type 0 where
  pub each_class : length p ≡ classes_of s
  pub values : (c : ℕ) → c < classes_of s → at p c ≡ f c

pub from_none : (s : GridState) (n : ℕ) (xs ys : List ℤ) (f : ℕ → ℤ) → n ≡ classes_of s → xs ≡ replicate n (pos 0) → IsRaised xs ys f → HasNumbers s ys f
from_none s n xs ys f same start h =
    let size = ap length start ∙ length-replicate n (pos 0) in
    record {
      each_class = h.each_class ∙ size ∙ same;
      values = λ c b.
          let none = ap (λ (zs : List ℤ). at zs c) start ∙ get_or-replicate n c (pos 0) (pos 0) (omega (arith, same, b)) in
          let more = h.values c (omega (arith, size, same, b)) in
          omega (arith, linear, none, more);
    }

abbrev pub reference_number : GridState → Grid → ℕ → ℤ
reference_number s grid c = pos (10 ^ 13) *ℤ of_class s (injection_at grid) c +ℤ pos (10 ^ 4) *ℤ shifts_at s grid c

abbrev pub block_number : GridState → Block → ℕ → ℤ
block_number s block c = pos (10 ^ 13) *ℤ of_class s (weight_at block) c

pub and_shifts : (s : GridState) (grid : Grid) (ys zs : List ℤ) → HasNumbers s ys (λ c. pos (10 ^ 13) *ℤ of_class s (injection_at grid) c) → IsRaised ys zs (λ c. pos (10 ^ 4) *ℤ shifts_at s grid c) → HasNumbers s zs (reference_number s grid)
and_shifts s grid ys zs powers h = record {
  each_class = h.each_class ∙ powers.each_class;
  values = λ c b.
      let size = powers.each_class in
      let power = powers.values c b in
      let more = h.values c (omega (arith, size, b)) in
      omega (arith, linear, power, more);
}

pub is_reference : (s : GridState) (grid : Grid) (p : List ℤ) → HasNumbers s p (reference_number s grid) → p ≡ reference_side s grid
is_reference s grid p h =
    listed s (pos (10 ^ 4)) (λ c. pos (10 ^ 9) *ℤ of_class s (injection_at grid) c +ℤ shifts_at s grid c) p h.each_class
    (λ c b. h.values c b ∙ scaled (of_class s (injection_at grid) c) (shifts_at s grid c))
  where
    scaled : (x y : ℤ) → pos (10 ^ 13) *ℤ x +ℤ pos (10 ^ 4) *ℤ y ≡ pos (10 ^ 4) *ℤ (pos (10 ^ 9) *ℤ x +ℤ y)
    scaled x y = omega (arith, ints)

pub is_block : (s : GridState) (block : Block) (p : List ℤ) → HasNumbers s p (block_number s block) → p ≡ block_side s block
is_block s block p h = listed s (pos (10 ^ 13)) (of_class s (weight_at block)) p h.each_class h.values
