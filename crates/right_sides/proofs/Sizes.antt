-- What the numbers of the right sides add up to in size, over all classes.
use Rattle.std.proofs.Common.{◌≡◌, ℕ, zero, suc, ◌+◌, ◌*◌, ◌^◌, ◌<◌, ◌≤◌, Bool, true, false, cond, eqb, List, [], ◌∷◌, length, take, All, ℤ, pos, ◌+ℤ◌, ◌-ℤ◌, ◌*ℤ◌, neg_ℤ, ◌≤ℤ◌, refl, sym, ap, ◌∙◌, arith, nat_abs}
use Rattle.std.specs.Prelude.{◌==◌, if◌then◌else◌, slice_get, sum_by, unsigned_abs}
use Rattle.std.specs.List.{enumerate_from}
use Rattle.std.proofs.lemmas.Int.{ints}
use Rattle.std.proofs.lemmas.List.Elements.{All-head, All-tail, All-take}
use Rattle.std.proofs.lemmas.List.Sums.{sum_by-cons}
use Rattle.whole_laws.specs.Ring.{linear, scale-≤}
use Rattle.whole_laws.specs.Sums.{IsWithin, sum_below, sum_over, at, total_below}
use Rattle.whole_laws.specs.SumLaws.{within_times, sum_below-add, sum_below-same, sum_below-mono, sum_below-sum_over, sum_below-pos, sum_below-times, sum_below-zero, sum_below-high, term-le-sum_below, sum_over-mono, sum_over-take}
use Rattle.fb_types.specs.declared.grid.Node.{Node}
use Rattle.fb_types.specs.declared.grid.Branch.{Branch}
use Rattle.fb_types.specs.declared.grid.Grid.{Grid}
use Rattle.fb_types.specs.declared.keys.Weight.{Weight}
use Rattle.fb_types.specs.declared.keys.Block.{Block}
use Rattle.grid_state.specs.GridState.{GridState, classes_of, class_at, carries_at}
use Rattle.grid_laplacian.specs.Sizes.{size_of}
use Rattle.grid_laplacian.specs.Ranges.{exchanges_of, shifts_of}
use Rattle.grid_laplacian.proofs.LawProofs.{total_of_list}
use Rattle.security.specs.Balances.{of_class, fed_in, injection_at, shift_of, shifts_at, weight_at}
use Rattle.zonal_factors.specs.FactorSpans.{IsBlock}
use Rattle.zonal_factors.proofs.Supplies.{one_sum, classes_sum}
use Rattle.right_sides.specs.Raised.{weights_at}

-- ---- sizes of sums

abbrev pub size : ℤ → ℤ
size z = pos (nat_abs z)

size_sum : (a b : ℤ) → size (a +ℤ b) ≤ℤ (size a +ℤ size b)
size_sum a b = omega (arith, ints)

size_below : (n : ℕ) (f : ℕ → ℤ) → size (sum_below n f) ≤ℤ sum_below n (λ k. size (f k))
size_below zero f = omega (arith, ints)
size_below (suc n) f =
    let rest = size_below n f in
    let both = size_sum (sum_below n f) (f n) in
    omega (arith, linear, rest, both)

size_over : {X : Type 0} (f : X → ℤ) (xs : List X) → size (sum_over f xs) ≤ℤ sum_over (λ x. size (f x)) xs
size_over f [] = omega (arith, ints)
size_over f (x ∷ xs) =
    let rest = size_over f xs in
    let both = size_sum (f x) (sum_over f xs) in
    omega (arith, linear, rest, both)

cond_size : (t : Bool) (x : ℤ) → size (cond t x (pos 0)) ≡ cond t (size x) (pos 0)
cond_size true x = refl
cond_size false x = refl

size_within : (m : ℕ) (z : ℤ) → IsWithin m z → size z ≤ℤ pos m
size_within m z h = omega (arith, ints, h.low, h.high)

own_size : (z : ℤ) → IsWithin (nat_abs z) z
own_size z = record { low = omega (arith, ints); high = omega (arith, ints) }

product_size : (a b : ℤ) → size (a *ℤ b) ≤ℤ pos (nat_abs a * nat_abs b)
product_size a b = size_within (nat_abs a * nat_abs b) (a *ℤ b) (within_times (nat_abs a) (nat_abs b) a b (own_size a) (own_size b))

-- the size of a list is the sum over the classes
listed_size : (s : GridState) (p : List ℤ) → length p ≡ classes_of s → pos (size_of p) ≡ sum_below (classes_of s) (λ c. size (at p c))
listed_size s p same =
    sym (sum_below-pos (classes_of s) (λ c. nat_abs (at p c)) ∙ ap (λ (n : ℕ). pos (total_below n (λ c. nat_abs (at p c)))) (sym same) ∙ ap pos (total_of_list nat_abs p (pos 0)))

-- ---- what nodes feed in

from_front : (n : ℕ) (f : ℕ → ℤ) → sum_below (suc n) f ≡ f 0 +ℤ sum_below n (λ k. f (suc k))
from_front zero f = omega (arith, linear)
from_front (suc n) f = let e = from_front n f in omega (arith, linear, e)

nodes_size : (xs : List Node) → sum_below (length xs) (λ n. size (fed_in (slice_get xs n))) ≡ pos (sum_by (λ node. unsigned_abs (node.load +ℤ node.generation)) xs)
nodes_size [] = refl
nodes_size (x ∷ xs) =
    let first : size (neg_ℤ x.load -ℤ x.generation) ≡ pos (unsigned_abs (x.load +ℤ x.generation)) = omega (arith, ints) in
    let more = sum_by-cons (λ node. unsigned_abs (node.load +ℤ node.generation)) x xs in
    let front = from_front (length xs) (λ n. size (fed_in (slice_get (x ∷ xs) n))) in
    let rest = nodes_size xs in
    omega (arith, linear, more, front, first, rest)

class_size : (s : GridState) (f : ℕ → ℤ) (c : ℕ) → size (of_class s f c) ≤ℤ of_class s (λ n. size (f n)) c
class_size s f c =
    let each = size_below (length s.class_of) (λ n. if class_at s n == c then f n else pos 0) in
    let same = sum_below-same (length s.class_of) (λ n. size (if class_at s n == c then f n else pos 0)) (λ n. if class_at s n == c then size (f n) else pos 0) (λ n l. cond_size (eqb (class_at s n) c) (f n)) in
    omega (arith, linear, each, same)

fed_size : (s : GridState) (grid : Grid) → length s.class_of ≡ length grid.nodes → sum_below (classes_of s) (λ c. size (of_class s (injection_at grid) c)) ≤ℤ pos (exchanges_of grid)
fed_size s grid e =
    let each = sum_below-mono (classes_of s) (λ c. size (of_class s (injection_at grid) c)) (of_class s (λ n. size (injection_at grid n))) (λ c l. class_size s (injection_at grid) c) in
    let all = classes_sum s (λ n. size (injection_at grid n)) (λ n. omega (arith, ints)) in
    let nodes = nodes_size grid.nodes in
    let same : sum_below (length s.class_of) (λ n. size (injection_at grid n)) ≡ sum_below (length grid.nodes) (λ n. size (injection_at grid n)) = ap (λ m. sum_below m (λ n. size (injection_at grid n))) e in
    omega (arith, linear, each, all, nodes, same)

-- ---- phase shifts

shift_size : (s : GridState) (br : Branch) (c : ℕ)
    → size (shift_of s br c) ≤ℤ ((if class_at s br.to == c then size (br.b *ℤ br.phi) else pos 0) +ℤ (if class_at s br.from == c then size (br.b *ℤ br.phi) else pos 0))
shift_size s br c = by_test (eqb (class_at s br.to) c) (eqb (class_at s br.from) c) (br.b *ℤ br.phi)
  where
    by_test : (t u : Bool) (x : ℤ) → size (cond t x (pos 0) -ℤ cond u x (pos 0)) ≤ℤ (cond t (size x) (pos 0) +ℤ cond u (size x) (pos 0))
    by_test true true x = omega (arith, ints)
    by_test true false x = omega (arith, ints)
    by_test false true x = omega (arith, ints)
    by_test false false x = omega (arith, ints)

shift_sum : (s : GridState) (br : Branch) → sum_below (classes_of s) (λ c. size (shift_of s br c)) ≤ℤ (pos 2 *ℤ pos (unsigned_abs br.b * unsigned_abs br.phi))
shift_sum s br =
    let x = size (br.b *ℤ br.phi) in
    let each = sum_below-mono (classes_of s) (λ c. size (shift_of s br c)) (λ c. (if class_at s br.to == c then size (br.b *ℤ br.phi) else pos 0) +ℤ (if class_at s br.from == c then size (br.b *ℤ br.phi) else pos 0)) (λ c l. shift_size s br c) in
    let both = sum_below-add (classes_of s) (λ c. if class_at s br.to == c then size (br.b *ℤ br.phi) else pos 0) (λ c. if class_at s br.from == c then size (br.b *ℤ br.phi) else pos 0) in
    let some : pos 0 ≤ℤ size (br.b *ℤ br.phi) = omega (arith, ints) in
    let one = one_sum (classes_of s) (class_at s br.to) x some in
    let two = one_sum (classes_of s) (class_at s br.from) x some in
    let product = product_size br.b br.phi in
    omega (arith, linear, each, both, one, two, product)

abbrev shift_in : GridState → ℕ × Branch → ℕ
shift_in s p = if carries_at s p.0 then unsigned_abs p.1.b * unsigned_abs p.1.phi else 0

shifts_over : (s : GridState) (ps : List (ℕ × Branch))
    → sum_over (λ p. sum_below (classes_of s) (λ c. size (if carries_at s p.0 then shift_of s p.1 c else pos 0))) ps ≤ℤ (pos 2 *ℤ pos (sum_by (shift_in s) ps))
shifts_over s [] = omega (arith, linear)
shifts_over s (p ∷ ps) =
    let rest = shifts_over s ps in
    let first = by_test (carries_at s p.0) (shift_sum s p.1) in
    let more = sum_by-cons (shift_in s) p ps in
    omega (arith, linear, rest, first, more)
  where
    by_test : (t : Bool) → sum_below (classes_of s) (λ c. size (shift_of s p.1 c)) ≤ℤ (pos 2 *ℤ pos (unsigned_abs p.1.b * unsigned_abs p.1.phi))
        → sum_below (classes_of s) (λ c. size (cond t (shift_of s p.1 c) (pos 0))) ≤ℤ (pos 2 *ℤ pos (cond t (unsigned_abs p.1.b * unsigned_abs p.1.phi) 0))
    by_test true h = h
    by_test false h = let z = sum_below-zero (classes_of s) in omega (arith, linear, z)

shifts_size : (s : GridState) (grid : Grid) → sum_below (classes_of s) (λ c. size (shifts_at s grid c)) ≤ℤ (pos 2 *ℤ pos (shifts_of s grid))
shifts_size s grid =
    let ps = enumerate_from 0 grid.branches in
    let each = sum_below-mono (classes_of s) (λ c. size (shifts_at s grid c)) (λ c. sum_over (λ p. size (if carries_at s p.0 then shift_of s p.1 c else pos 0)) (enumerate_from 0 grid.branches))
    (λ c l. size_over (λ p. if carries_at s p.0 then shift_of s p.1 c else pos 0) (enumerate_from 0 grid.branches)) in
    let swapped = sum_below-sum_over (classes_of s) (λ p c. size (if carries_at s p.0 then shift_of s p.1 c else pos 0)) (enumerate_from 0 grid.branches) in
    let all = shifts_over s ps in
    omega (arith, linear, each, swapped, all)

-- ---- the reference

pub reference_small : (s : GridState) (grid : Grid) (p : List ℤ) → length s.class_of ≡ length grid.nodes → length p ≡ classes_of s
    → ((c : ℕ) → c < classes_of s → at p c ≡ pos (10 ^ 13) *ℤ of_class s (injection_at grid) c +ℤ pos (10 ^ 4) *ℤ shifts_at s grid c)
    → 10 ^ 13 * exchanges_of grid + 2 * 10 ^ 4 * shifts_of s grid ≤ 2 * 10 ^ 25 → size_of p ≤ 2 * 10 ^ 25
reference_small s grid p nodes same h small =
    let all = listed_size s p same in
    let f : ℕ → ℤ = λ c. size (of_class s (injection_at grid) c) in
    let g : ℕ → ℤ = λ c. size (shifts_at s grid c) in
    let part = sum_below-mono (classes_of s) (λ c. size (at p c)) (λ c. pos (10 ^ 13) *ℤ size (of_class s (injection_at grid) c) +ℤ pos (10 ^ 4) *ℤ size (shifts_at s grid c))
    (λ c l. one (at p c) (of_class s (injection_at grid) c) (shifts_at s grid c) (h c l)) in
    let both = sum_below-add (classes_of s) (λ c. pos (10 ^ 13) *ℤ size (of_class s (injection_at grid) c)) (λ c. pos (10 ^ 4) *ℤ size (shifts_at s grid c)) in
    let times = sum_below-times (classes_of s) (pos (10 ^ 13)) (λ c. size (of_class s (injection_at grid) c)) in
    let times_shifts = sum_below-times (classes_of s) (pos (10 ^ 4)) (λ c. size (shifts_at s grid c)) in
    let fed = scale-≤ (pos (10 ^ 13)) (sum_below (classes_of s) (λ c. size (of_class s (injection_at grid) c))) (pos (exchanges_of grid)) (record { le = tt }) (fed_size s grid nodes) in
    let shifts = scale-≤ (pos (10 ^ 4)) (sum_below (classes_of s) (λ c. size (shifts_at s grid c))) (pos 2 *ℤ pos (shifts_of s grid)) (record { le = tt }) (shifts_size s grid) in
    omega (arith, linear, all, part, both, times, times_shifts, fed, shifts, small)
  where
    one : (z x y : ℤ) → z ≡ pos (10 ^ 13) *ℤ x +ℤ pos (10 ^ 4) *ℤ y → size z ≤ℤ (pos (10 ^ 13) *ℤ size x +ℤ pos (10 ^ 4) *ℤ size y)
    one z x y h = omega (arith, ints, h)

-- ---- the weights of a block

nonnegative_at : (ws : List Weight) (n : ℕ) → All (λ w. pos 0 ≤ℤ w.weight) ws → pos 0 ≤ℤ weights_at ws n
nonnegative_at [] n h = omega (arith, linear)
nonnegative_at (w ∷ ws) n h =
    let rest = nonnegative_at ws n (All-tail (λ (v : Weight). pos 0 ≤ℤ v.weight) w ws h) in
    let first = by_test (eqb w.node n) w.weight (All-head (λ (v : Weight). pos 0 ≤ℤ v.weight) w ws h) in
    omega (arith, linear, rest, first)
  where
    by_test : (t : Bool) (x : ℤ) → pos 0 ≤ℤ x → pos 0 ≤ℤ cond t x (pos 0)
    by_test true x h = h
    by_test false x h = omega (arith, linear)

class_nonnegative : (s : GridState) (f : ℕ → ℤ) → ((n : ℕ) → pos 0 ≤ℤ f n) → (c : ℕ) → pos 0 ≤ℤ of_class s f c
class_nonnegative s f nonnegative c = sum_below-high (length s.class_of) (λ n. if class_at s n == c then f n else pos 0) (λ n l. by_test (eqb (class_at s n) c) (f n) (nonnegative n))
  where
    by_test : (t : Bool) (x : ℤ) → pos 0 ≤ℤ x → pos 0 ≤ℤ cond t x (pos 0)
    by_test true x h = h
    by_test false x h = omega (arith, linear)

all_weights : (s : GridState) (ws : List Weight) → All (λ w. pos 0 ≤ℤ w.weight) ws → sum_below (classes_of s) (of_class s (weights_at ws)) ≤ℤ sum_over (λ w. w.weight) ws
all_weights s ws h =
    let by_class = classes_sum s (weights_at ws) (λ n. nonnegative_at ws n h) in
    let swapped = sum_below-sum_over (length s.class_of) (λ (w : Weight) k. if w.node == k then w.weight else pos 0) ws in
    let each = sum_over-mono (λ (w : Weight). sum_below (length s.class_of) (λ k. if w.node == k then w.weight else pos 0)) (λ w. w.weight) ws (λ k d l. one_sum (length s.class_of) _ _ (h k d l)) in
    omega (arith, linear, by_class, swapped, each)

-- what some first weights have at a class
pub weights_within : (s : GridState) (block : Block) (i c : ℕ) → IsBlock block → c < classes_of s → IsWithin (10 ^ 25) (pos (10 ^ 13) *ℤ of_class s (weights_at (take i block.weights)) c)
weights_within s block i c h below =
    let ws = take i block.weights in
    let signs = All-take (λ (w : Weight). pos 0 ≤ℤ w.weight) i block.weights h.weights in
    let each : (k : ℕ) → k < classes_of s → pos 0 ≤ℤ of_class s (weights_at (take i block.weights)) k = λ k l. class_nonnegative s (weights_at (take i block.weights)) (λ n. nonnegative_at (take i block.weights) n signs) k in
    let term = term-le-sum_below (classes_of s) (of_class s (weights_at (take i block.weights))) each c below in
    let some = each c below in
    let part = all_weights s (take i block.weights) signs in
    let first = sum_over-take (λ (w : Weight). w.weight) block.weights i h.weights in
    let total = h.total in
    let small = h.small in
    scaled (of_class s (weights_at (take i block.weights)) c) some (omega (arith, linear, term, part, first, total, small))
  where
    scaled : (z : ℤ) → pos 0 ≤ℤ z → z ≤ℤ pos (10 ^ 12) → IsWithin (10 ^ 25) (pos (10 ^ 13) *ℤ z)
    scaled z low high = record { low = omega (arith, ints, low, high); high = omega (arith, ints, low, high) }

pub block_small : (s : GridState) (block : Block) (p : List ℤ) → IsBlock block → length p ≡ classes_of s
    → ((c : ℕ) → c < classes_of s → at p c ≡ pos (10 ^ 13) *ℤ of_class s (weight_at block) c) → size_of p ≤ 10 ^ 25
block_small s block p h same value =
    let all = listed_size s p same in
    let part = sum_below-mono (classes_of s) (λ c. size (at p c)) (λ c. pos (10 ^ 13) *ℤ of_class s (weight_at block) c)
    (λ c l. one (at p c) (of_class s (weight_at block) c) (value c l) (class_nonnegative s (weight_at block) (λ n. nonnegative_at block.weights n h.weights) c)) in
    let times = sum_below-times (classes_of s) (pos (10 ^ 13)) (of_class s (weight_at block)) in
    let weights = all_weights s block.weights h.weights in
    let total = h.total in
    let small = h.small in
    let scaled = scale-≤ (pos (10 ^ 13)) (sum_below (classes_of s) (of_class s (weight_at block))) (pos (10 ^ 12)) (record { le = tt }) (omega (arith, linear, weights, total, small)) in
    omega (arith, linear, all, part, times, scaled)
  where
    one : (z x : ℤ) → z ≡ pos (10 ^ 13) *ℤ x → pos 0 ≤ℤ x → size z ≤ℤ (pos (10 ^ 13) *ℤ x)
    one z x e h = omega (arith, ints, e, h)
