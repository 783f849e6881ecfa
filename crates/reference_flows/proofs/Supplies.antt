-- What the base balance adds up to in size, over the classes.
use Rattle.std.proofs.Common.{◌≡◌, ℕ, zero, suc, ◌+◌, ◌*◌, ◌^◌, ◌≤◌, Bool, true, false, cond, eqb, List, [], ◌∷◌, length, Some, ℤ, pos, ◌+ℤ◌, ◌-ℤ◌, ◌*ℤ◌, neg_ℤ, ◌≤ℤ◌, refl, sym, ap, ◌∙◌, arith, nat_abs}
use Rattle.std.specs.Prelude.{◌==◌, if◌then◌else◌, slice_get, sum_by, unsigned_abs}
use Rattle.std.specs.List.{enumerate_from}
use Rattle.std.proofs.lemmas.Int.{ints}
use Rattle.std.proofs.lemmas.Bool.{cond-true}
use Rattle.std.proofs.lemmas.List.Sums.{sum_by-cons}
use Rattle.whole_laws.specs.Ring.{linear, scale-≤}
use Rattle.whole_laws.specs.Sums.{IsWithin, sum_below, sum_over, at}
use Rattle.whole_laws.specs.SumLaws.{within_times, sum_below-add, sum_below-same, sum_below-mono, sum_below-sum_over, sum_below-pos, sum_below-times, sum_below-zero}
use Rattle.fb_types.specs.declared.grid.Node.{Node}
use Rattle.fb_types.specs.declared.grid.Branch.{Branch}
use Rattle.fb_types.specs.declared.grid.Grid.{Grid}
use Rattle.grid_state.specs.GridState.{GridState, classes_of, class_at, is_free, carries_at}
use Rattle.grid_laplacian.specs.Sizes.{supply_of}
use Rattle.grid_laplacian.specs.Ranges.{exchanges_of, shifts_of}
use Rattle.security.specs.Balances.{of_class, fed_in, injection_at, shift_of, shifts_at, base_balance}
use Rattle.exact_flows.proofs.Listed.{at_classes}
use Rattle.zonal_factors.proofs.Supplies.{one_sum, classes_sum}

-- ---- sizes of sums

abbrev pub size : ℤ → ℤ
size z = pos (nat_abs z)

size_sum : (a b : ℤ) → size (a +ℤ b) ≤ℤ (size a +ℤ size b)
size_sum a b = omega (arith, ints)

size_below : (n : ℕ) (f : ℕ → ℤ) → size (sum_below n f) ≤ℤ sum_below n (λ k. size (f k))
size_below zero f = omega (arith, ints)
size_below (suc n) f =
    let rest = size_below n f in
    let both = size_sum (sum_below n f) (f n) in
    omega (arith, linear, rest, both)

size_over : {X : Type 0} (f : X → ℤ) (xs : List X) → size (sum_over f xs) ≤ℤ sum_over (λ x. size (f x)) xs
size_over f [] = omega (arith, ints)
size_over f (x ∷ xs) =
    let rest = size_over f xs in
    let both = size_sum (f x) (sum_over f xs) in
    omega (arith, linear, rest, both)

cond_size : (t : Bool) (x : ℤ) → size (cond t x (pos 0)) ≡ cond t (size x) (pos 0)
cond_size true x = refl
cond_size false x = refl

size_within : (m : ℕ) (z : ℤ) → IsWithin m z → size z ≤ℤ pos m
size_within m z h = omega (arith, ints, h.low, h.high)

own_size : (z : ℤ) → IsWithin (nat_abs z) z
own_size z = record { low = omega (arith, ints); high = omega (arith, ints) }

pub product_size : (a b : ℤ) → size (a *ℤ b) ≤ℤ pos (nat_abs a * nat_abs b)
product_size a b = size_within (nat_abs a * nat_abs b) (a *ℤ b) (within_times (nat_abs a) (nat_abs b) a b (own_size a) (own_size b))

-- ---- what nodes feed in

from_front : (n : ℕ) (f : ℕ → ℤ) → sum_below (suc n) f ≡ f 0 +ℤ sum_below n (λ k. f (suc k))
from_front zero f = omega (arith, linear)
from_front (suc n) f = let e = from_front n f in omega (arith, linear, e)

nodes_size : (xs : List Node) → sum_below (length xs) (λ n. size (fed_in (slice_get xs n))) ≡ pos (sum_by (λ node. unsigned_abs (node.load +ℤ node.generation)) xs)
nodes_size [] = refl
nodes_size (x ∷ xs) =
    let first : size (neg_ℤ x.load -ℤ x.generation) ≡ pos (unsigned_abs (x.load +ℤ x.generation)) = omega (arith, ints) in
    let more = sum_by-cons (λ node. unsigned_abs (node.load +ℤ node.generation)) x xs in
    let front = from_front (length xs) (λ n. size (fed_in (slice_get (x ∷ xs) n))) in
    let rest = nodes_size xs in
    omega (arith, linear, more, front, first, rest)

class_size : (s : GridState) (f : ℕ → ℤ) (c : ℕ) → size (of_class s f c) ≤ℤ of_class s (λ n. size (f n)) c
class_size s f c =
    let each = size_below (length s.class_of) (λ n. if class_at s n == c then f n else pos 0) in
    let same = sum_below-same (length s.class_of) (λ n. size (if class_at s n == c then f n else pos 0)) (λ n. if class_at s n == c then size (f n) else pos 0) (λ n l. cond_size (eqb (class_at s n) c) (f n)) in
    omega (arith, linear, each, same)

fed_size : (s : GridState) (grid : Grid) → length s.class_of ≡ length grid.nodes → sum_below (classes_of s) (λ c. size (of_class s (injection_at grid) c)) ≤ℤ pos (exchanges_of grid)
fed_size s grid e =
    let each = sum_below-mono (classes_of s) (λ c. size (of_class s (injection_at grid) c)) (of_class s (λ n. size (injection_at grid n))) (λ c l. class_size s (injection_at grid) c) in
    let all = classes_sum s (λ n. size (injection_at grid n)) (λ n. omega (arith, ints)) in
    let nodes = nodes_size grid.nodes in
    let same : sum_below (length s.class_of) (λ n. size (injection_at grid n)) ≡ sum_below (length grid.nodes) (λ n. size (injection_at grid n)) = ap (λ m. sum_below m (λ n. size (injection_at grid n))) e in
    omega (arith, linear, each, all, nodes, same)

-- ---- phase shifts

shift_size : (s : GridState) (br : Branch) (c : ℕ)
    → size (shift_of s br c) ≤ℤ ((if class_at s br.to == c then size (br.b *ℤ br.phi) else pos 0) +ℤ (if class_at s br.from == c then size (br.b *ℤ br.phi) else pos 0))
shift_size s br c = by_test (eqb (class_at s br.to) c) (eqb (class_at s br.from) c) (br.b *ℤ br.phi)
  where
    by_test : (t u : Bool) (x : ℤ) → size (cond t x (pos 0) -ℤ cond u x (pos 0)) ≤ℤ (cond t (size x) (pos 0) +ℤ cond u (size x) (pos 0))
    by_test true true x = omega (arith, ints)
    by_test true false x = omega (arith, ints)
    by_test false true x = omega (arith, ints)
    by_test false false x = omega (arith, ints)

shift_sum : (s : GridState) (br : Branch) → sum_below (classes_of s) (λ c. size (shift_of s br c)) ≤ℤ (pos 2 *ℤ pos (unsigned_abs br.b * unsigned_abs br.phi))
shift_sum s br =
    let x = size (br.b *ℤ br.phi) in
    let each = sum_below-mono (classes_of s) (λ c. size (shift_of s br c)) (λ c. (if class_at s br.to == c then size (br.b *ℤ br.phi) else pos 0) +ℤ (if class_at s br.from == c then size (br.b *ℤ br.phi) else pos 0)) (λ c l. shift_size s br c) in
    let both = sum_below-add (classes_of s) (λ c. if class_at s br.to == c then size (br.b *ℤ br.phi) else pos 0) (λ c. if class_at s br.from == c then size (br.b *ℤ br.phi) else pos 0) in
    let some : pos 0 ≤ℤ size (br.b *ℤ br.phi) = omega (arith, ints) in
    let one = one_sum (classes_of s) (class_at s br.to) x some in
    let two = one_sum (classes_of s) (class_at s br.from) x some in
    let product = product_size br.b br.phi in
    omega (arith, linear, each, both, one, two, product)

abbrev shift_in : GridState → ℕ × Branch → ℕ
shift_in s p = if carries_at s p.0 then unsigned_abs p.1.b * unsigned_abs p.1.phi else 0

shifts_over : (s : GridState) (ps : List (ℕ × Branch))
    → sum_over (λ p. sum_below (classes_of s) (λ c. size (if carries_at s p.0 then shift_of s p.1 c else pos 0))) ps ≤ℤ (pos 2 *ℤ pos (sum_by (shift_in s) ps))
shifts_over s [] = omega (arith, linear)
shifts_over s (p ∷ ps) =
    let rest = shifts_over s ps in
    let first = by_test (carries_at s p.0) (shift_sum s p.1) in
    let more = sum_by-cons (shift_in s) p ps in
    omega (arith, linear, rest, first, more)
  where
    by_test : (t : Bool) → sum_below (classes_of s) (λ c. size (shift_of s p.1 c)) ≤ℤ (pos 2 *ℤ pos (unsigned_abs p.1.b * unsigned_abs p.1.phi))
        → sum_below (classes_of s) (λ c. size (cond t (shift_of s p.1 c) (pos 0))) ≤ℤ (pos 2 *ℤ pos (cond t (unsigned_abs p.1.b * unsigned_abs p.1.phi) 0))
    by_test true h = h
    by_test false h = let z = sum_below-zero (classes_of s) in omega (arith, linear, z)

shifts_size : (s : GridState) (grid : Grid) → sum_below (classes_of s) (λ c. size (shifts_at s grid c)) ≤ℤ (pos 2 *ℤ pos (shifts_of s grid))
shifts_size s grid =
    let ps = enumerate_from 0 grid.branches in
    let each = sum_below-mono (classes_of s) (λ c. size (shifts_at s grid c)) (λ c. sum_over (λ p. size (if carries_at s p.0 then shift_of s p.1 c else pos 0)) (enumerate_from 0 grid.branches))
    (λ c l. size_over (λ p. if carries_at s p.0 then shift_of s p.1 c else pos 0) (enumerate_from 0 grid.branches)) in
    let swapped = sum_below-sum_over (classes_of s) (λ p c. size (if carries_at s p.0 then shift_of s p.1 c else pos 0)) (enumerate_from 0 grid.branches) in
    let all = shifts_over s ps in
    omega (arith, linear, each, swapped, all)

-- ---- the base balance, in nanowatts

pub base_size : (s : GridState) (grid : Grid) → length s.class_of ≡ length grid.nodes
    → pos (supply_of s (base_balance s grid)) ≤ℤ (pos (10 ^ 9) *ℤ pos (exchanges_of grid) +ℤ pos 2 *ℤ pos (shifts_of s grid))
base_size s grid e =
    let as_sum = sum_below-pos (classes_of s) (λ i. cond (is_free s i) (nat_abs (at (base_balance s grid) i)) 0) in
    let part = sum_below-mono (classes_of s) (λ i. pos (cond (is_free s i) (nat_abs (at (base_balance s grid) i)) 0)) (λ i. pos (10 ^ 9) *ℤ size (of_class s (injection_at grid) i) +ℤ size (shifts_at s grid i))
    (λ i l. one (is_free s i) (at (base_balance s grid) i) (of_class s (injection_at grid) i) (shifts_at s grid i) (at_classes s (λ c. pos (10 ^ 9) *ℤ of_class s (injection_at grid) c +ℤ shifts_at s grid c) i l)) in
    let both = sum_below-add (classes_of s) (λ i. pos (10 ^ 9) *ℤ size (of_class s (injection_at grid) i)) (λ i. size (shifts_at s grid i)) in
    let times = sum_below-times (classes_of s) (pos (10 ^ 9)) (λ i. size (of_class s (injection_at grid) i)) in
    let fed = fed_size s grid e in
    let shifts = shifts_size s grid in
    let scaled = scale-≤ (pos (10 ^ 9)) (sum_below (classes_of s) (λ c. size (of_class s (injection_at grid) c))) (pos (exchanges_of grid)) (record { le = tt }) fed in
    omega (arith, linear, as_sum, part, both, times, scaled, shifts)
  where
    one : (t : Bool) (z x y : ℤ) → z ≡ pos (10 ^ 9) *ℤ x +ℤ y → pos (cond t (nat_abs z) 0) ≤ℤ (pos (10 ^ 9) *ℤ size x +ℤ size y)
    one true z x y h = omega (arith, ints, h)
    one false z x y h = omega (arith, ints)

-- the shift of one branch
pub shift_at_most : (s : GridState) (bs : List Branch) (a k : ℕ) (br : Branch) → slice_get bs k ≡ Some br → carries_at s (a + k) ≡ true
    → (unsigned_abs br.b * unsigned_abs br.phi) ≤ sum_by (shift_in s) (enumerate_from a bs)
shift_at_most s [] a k br e c = absurd cc
shift_at_most s (b ∷ bs) a zero br e c =
    let same : b ≡ br = cc in
    let n : a + 0 ≡ a = omega arith in
    let here : shift_in s (a, b) ≡ unsigned_abs b.b * unsigned_abs b.phi = cond-true {A = ℕ} (carries_at s a) _ 0 (ap (carries_at s) (sym n) ∙ c) in
    let same_size : unsigned_abs b.b * unsigned_abs b.phi ≡ unsigned_abs br.b * unsigned_abs br.phi = ap (λ (x : Branch). unsigned_abs x.b * unsigned_abs x.phi) same in
    let more = sum_by-cons (shift_in s) (a, b) (enumerate_from (a + 1) bs) in
    omega (arith, here, same_size, more)
shift_at_most s (b ∷ bs) a (suc k) br e c =
    let n : a + suc k ≡ (a + 1) + k = omega arith in
    let rest = shift_at_most s bs (a + 1) k br e (ap (carries_at s) (sym n) ∙ c) in
    let more = sum_by-cons (shift_in s) (a, b) (enumerate_from (a + 1) bs) in
    omega (arith, rest, more)
