-- The weights of a block, added up by classes, are together at most its total.
use Rattle.std.proofs.Common.{◌≡◌, ℕ, zero, suc, ◌≤◌, Bool, true, false, cond, eqb, List, [], ◌∷◌, length, All, ℤ, pos, ◌≤ℤ◌, refl, arith, nat_abs, ⊎_elim}
use Rattle.std.specs.Prelude.{◌==◌, if◌then◌else◌}
use Rattle.std.proofs.lemmas.Bool.{cases_eq, cond-true, cond-false, eq-eqb, ne_eqb}
use Rattle.std.proofs.lemmas.Int.{ints}
use Rattle.std.proofs.lemmas.List.Elements.{All-head, All-tail}
use Rattle.whole_laws.specs.Ring.{linear}
use Rattle.whole_laws.specs.Sums.{sum_below, sum_over, at}
use Rattle.whole_laws.specs.SumLaws.{sum_below-swap, sum_below-mono, sum_below-sum_over, sum_below-pos, sum_below-high, sum_over-mono}
use Rattle.fb_types.specs.declared.keys.Weight.{Weight}
use Rattle.fb_types.specs.declared.keys.Block.{Block}
use Rattle.grid_state.specs.GridState.{GridState, classes_of, class_at, is_free}
use Rattle.grid_laplacian.specs.Sizes.{supply_of}
use Rattle.security.specs.Balances.{of_class, weight_at, block_weights}
use Rattle.exact_flows.proofs.Listed.{at_classes}
use Rattle.zonal_factors.specs.FactorSpans.{IsBlock}

-- a number that stands at one place, added up over places
absent_sum : (n m : ℕ) (x : ℤ) → n ≤ m → sum_below n (λ k. if m == k then x else pos 0) ≡ pos 0
absent_sum zero m x h = refl
absent_sum (suc n) m x h =
    let rest = absent_sum n m x (omega arith) in
    let ne : eqb m n ≡ false = ne_eqb m n (λ e. absurd (omega arith)) in
    let here : cond (eqb m n) x (pos 0) ≡ pos 0 = cond-false {A = ℤ} (eqb m n) x (pos 0) ne in
    omega (arith, linear, rest, here)

pub one_sum : (n m : ℕ) (x : ℤ) → pos 0 ≤ℤ x → sum_below n (λ k. if m == k then x else pos 0) ≤ℤ x
one_sum zero m x h = omega (arith, linear, h)
one_sum (suc n) m x h =
    ⊎_elim (λ same.
    let none = absent_sum n m x (omega arith) in
    let here : cond (eqb m n) x (pos 0) ≡ x = cond-true {A = ℤ} (eqb m n) x (pos 0) (eq-eqb m n same) in
    omega (arith, linear, none, here))
    (λ other.
    let rest = one_sum n m x h in
    let here : cond (eqb m n) x (pos 0) ≡ pos 0 = cond-false {A = ℤ} (eqb m n) x (pos 0) (ne_eqb m n other) in
    omega (arith, linear, rest, here))
    (cases_eq m n)

-- the weights at nodes are not negative
weight_nonnegative : (ws : List Weight) (n : ℕ) → All (λ w. pos 0 ≤ℤ w.weight) ws → pos 0 ≤ℤ sum_over (λ w. if w.node == n then w.weight else pos 0) ws
weight_nonnegative [] n h = omega (arith, linear)
weight_nonnegative (w ∷ ws) n h =
    let rest = weight_nonnegative ws n (All-tail (λ (v : Weight). pos 0 ≤ℤ v.weight) w ws h) in
    let first = by_test (eqb w.node n) w.weight (All-head (λ (v : Weight). pos 0 ≤ℤ v.weight) w ws h) in
    omega (arith, linear, rest, first)
  where
    by_test : (t : Bool) (x : ℤ) → pos 0 ≤ℤ x → pos 0 ≤ℤ cond t x (pos 0)
    by_test true x h = h
    by_test false x h = omega (arith, linear)

-- all weights, wherever they stand among the first n nodes, are at most their sum
nodes_sum : (n : ℕ) (ws : List Weight) → All (λ w. pos 0 ≤ℤ w.weight) ws → sum_below n (λ k. sum_over (λ w. if w.node == k then w.weight else pos 0) ws) ≤ℤ sum_over (λ w. w.weight) ws
nodes_sum n ws h =
    let swapped = sum_below-sum_over n (λ (w : Weight) k. if w.node == k then w.weight else pos 0) ws in
    let each = sum_over-mono (λ (w : Weight). sum_below n (λ k. if w.node == k then w.weight else pos 0)) (λ w. w.weight) ws (λ k d l. one_sum n _ _ (h k d l)) in
    omega (arith, linear, swapped, each)

-- and by classes
pub classes_sum : (s : GridState) (f : ℕ → ℤ) → ((n : ℕ) → pos 0 ≤ℤ f n) → sum_below (classes_of s) (of_class s f) ≤ℤ sum_below (length s.class_of) f
classes_sum s f nonnegative =
    let swapped = sum_below-swap (classes_of s) (length s.class_of) (λ c n. if class_at s n == c then f n else pos 0) in
    let each = sum_below-mono (length s.class_of) (λ n. sum_below (classes_of s) (λ c. if class_at s n == c then f n else pos 0)) f (λ n l. one_sum (classes_of s) (class_at s n) (f n) (nonnegative n)) in
    omega (arith, linear, swapped, each)

class_nonnegative : (s : GridState) (f : ℕ → ℤ) → ((n : ℕ) → pos 0 ≤ℤ f n) → (c : ℕ) → pos 0 ≤ℤ of_class s f c
class_nonnegative s f nonnegative c = sum_below-high (length s.class_of) (λ n. if class_at s n == c then f n else pos 0) (λ n l. by_test (eqb (class_at s n) c) (f n) (nonnegative n))
  where
    by_test : (t : Bool) (x : ℤ) → pos 0 ≤ℤ x → pos 0 ≤ℤ cond t x (pos 0)
    by_test true x h = h
    by_test false x h = omega (arith, linear)

pub supply_at_most_total : (s : GridState) (block : Block) → IsBlock block → pos (supply_of s (block_weights s block)) ≤ℤ block.total
supply_at_most_total s block h =
    let f = weight_at block in
    let nonnegative : (n : ℕ) → pos 0 ≤ℤ weight_at block n = λ n. weight_nonnegative block.weights n h.weights in
    let as_sum = sum_below-pos (classes_of s) (λ i. cond (is_free s i) (nat_abs (at (block_weights s block) i)) 0) in
    let part = sum_below-mono (classes_of s) (λ i. pos (cond (is_free s i) (nat_abs (at (block_weights s block) i)) 0)) (of_class s (weight_at block))
    (λ i l. one (is_free s i) (at (block_weights s block) i) (of_class s (weight_at block) i) (at_classes s (of_class s (weight_at block)) i l) (class_nonnegative s (weight_at block) nonnegative i)) in
    let by_class = classes_sum s (weight_at block) nonnegative in
    let by_node = nodes_sum (length s.class_of) block.weights h.weights in
    let total = h.total in
    omega (arith, linear, as_sum, part, by_class, by_node, total)
  where
    one : (t : Bool) (z x : ℤ) → z ≡ x → pos 0 ≤ℤ x → pos (cond t (nat_abs z) 0) ≤ℤ x
    one true z x e h = omega (arith, ints, e, h)
    one false z x e h = omega (arith, ints, h)
