-- No angle is above the number of classes times what comes in, over the least weight.
use Rattle.std.proofs.Common.{◌≡◌, ℕ, zero, suc, ◌+◌, ◌-◌, ◌*◌, ◌<◌, ◌≤◌, inl, inr, Bool, true, false, cond, ◌&&◌, ℤ, pos, negsuc, ◌-ℤ◌, ◌*ℤ◌, neg_ℤ, nat_abs, ◌≤ℤ◌, ◌<ℤ◌, arith, mul-le-mul_left, mul-le-mul_right, refl, sym, ap}
use Rattle.std.proofs.lemmas.Int.{ints, by_lt_z}
use Rattle.std.proofs.lemmas.Bool.{cases_Bool, cond-true, cond-false, and_from, and_parts}
use lib.Signed.{le_z, lt_z}
use borrow.Author.Differences.{up, down}
use Rattle.whole_laws.specs.Sums.{total_below}
use Rattle.grid_laplacian.specs.Tables.{IsGrounded, SolvesTable}
use Rattle.whole_laws.specs.TotalLaws.{total_below-le, total_below-lt, total_below-ones, term-le-total_below}
use Rattle.whole_laws.specs.Ring.{*ℤ-sub}
use Rattle.grid_laplacian.proofs.Cut.{supply, cut, SolvesTable-neg, same_supply}

abbrev pub free_count : ℕ → (ℕ → Bool) → ℕ
free_count n free = total_below n (λ c. cond (free c) 1 0)

-- the number of classes with a value above 0 and at most z
abbrev low_count : ℕ → (ℕ → ℤ) → ℤ → ℕ
low_count n t z = total_below n (λ c. cond (lt_z (pos 0) (t c) && le_z (t c) z) 1 0)

is_lt : (x y : ℤ) → x <ℤ y → lt_z x y ≡ true
is_lt x y h = sym (let e : true ≡ lt_z x y = omega (arith, ints) in e)

is_le : (x y : ℤ) → x ≤ℤ y → le_z x y ≡ true
is_le x y h = sym (let e : true ≡ le_z x y = omega (arith, ints) in e)

from_lt : (x y : ℤ) → lt_z x y ≡ true → x <ℤ y
from_lt x y h = omega (arith, ints)

from_le : (x y : ℤ) → le_z x y ≡ true → x ≤ℤ y
from_le x y h = omega (arith, ints)

from_not_le : (x y : ℤ) → le_z x y ≡ false → y <ℤ x
from_not_le x y h = omega (arith, ints)

one_at_most : (b : Bool) → cond b 1 0 ≤ 1
one_at_most true = omega arith
one_at_most false = omega arith

one_where : (b c : Bool) → (b ≡ true → c ≡ true) → cond b 1 0 ≤ cond c 1 0
one_where true c h = let e = cond-true {A = ℕ} c 1 0 (h refl) in omega arith
one_where false c h = omega arith

fewer : (n : ℕ) (t : ℕ → ℤ) (a b : ℕ) → a < n → pos 0 <ℤ t a → t b <ℤ t a → low_count n t (t b) < low_count n t (t a)
fewer n t a b h high less =
    total_below-lt n (λ c. cond (lt_z (pos 0) (t c) && le_z (t c) (t b)) 1 0) (λ c. cond (lt_z (pos 0) (t c) && le_z (t c) (t a)) 1 0)
    (λ c k. one_where (lt_z (pos 0) (t c) && le_z (t c) (t b)) (lt_z (pos 0) (t c) && le_z (t c) (t a))
    (λ e. let both = and_parts (lt_z (pos 0) (t c)) (le_z (t c) (t b)) e in
    and_from (lt_z (pos 0) (t c)) (le_z (t c) (t a)) both.0 (is_le (t c) (t a) (let under = from_le (t c) (t b) both.1 in omega (arith, ints)))))
    a h (let one = cond-true {A = ℕ} (lt_z (pos 0) (t a) && le_z (t a) (t a)) 1 0 (and_from (lt_z (pos 0) (t a)) (le_z (t a) (t a)) (is_lt (pos 0) (t a) high) (is_le (t a) (t a) (omega (arith, ints)))) in
    let none = cond-false {A = ℕ} (lt_z (pos 0) (t a) && le_z (t a) (t b)) 1 0 (not_there (lt_z (pos 0) (t a)) (le_z (t a) (t b)) (let e : false ≡ le_z (t a) (t b) = omega (arith, ints) in sym e)) in
    omega arith)
  where
    not_there : (x y : Bool) → y ≡ false → (x && y) ≡ false
    not_there true y e = e
    not_there false y e = refl

-- a weight of at least b times a drop
drop_at : (b w : ℕ) (x y z : ℤ) (k : ℕ) → b ≤ w → z ≤ℤ x → y <ℤ z → nat_abs (pos w *ℤ (x -ℤ y)) ≤ k → (pos b *ℤ (z -ℤ y)) ≤ℤ pos k
drop_at b w x y z k bw zx yz h =
    let u = up (x -ℤ y) - down (x -ℤ y) in
    let whole : up (x -ℤ y) ≡ down (x -ℤ y) + u = omega (arith, ints) in
    let in_w = ap (λ (m : ℕ). w * m) whole in
    let in_b = ap (λ (m : ℕ). b * m) whole in
    let more = mul-le-mul_right u bw in
    let less : up (z -ℤ y) + down (x -ℤ y) ≤ up (x -ℤ y) + down (z -ℤ y) = omega (arith, ints) in
    let in_less = mul-le-mul_left b less in
    let size : w * up (x -ℤ y) ≤ w * down (x -ℤ y) + k = omega (arith, ints) in
    omega (arith, ints)

counted : (n : ℕ) (t : ℕ → ℤ) (a : ℕ) → a < n → pos 0 <ℤ t a → 0 < low_count n t (t a)
counted n t a h high =
    let one = cond-true {A = ℕ} (lt_z (pos 0) (t a) && le_z (t a) (t a)) 1 0 (and_from (lt_z (pos 0) (t a)) (le_z (t a) (t a)) (is_lt (pos 0) (t a) high) (is_le (t a) (t a) (omega (arith, ints)))) in
    let part = term-le-total_below n (λ c. cond (lt_z (pos 0) (t c) && le_z (t c) (t a)) 1 0) a h in
    omega arith

-- the last step down, to a class that is not above 0
ends : (b : ℕ) (x y : ℤ) (l q : ℕ) → (pos b *ℤ (x -ℤ y)) ≤ℤ pos q → y ≤ℤ pos 0 → 0 < l → (pos b *ℤ x) ≤ℤ pos (l * q)
ends b x y l q h low some =
    let e : up x + down (x -ℤ y) ≤ up (x -ℤ y) + down x = omega (arith, ints) in
    let times = mul-le-mul_left b e in
    let more : 1 * q ≤ l * q = mul-le-mul_right q some in
    omega (arith, ints)

-- a step down before others
goes_on : (b : ℕ) (x y : ℤ) (l m q : ℕ) → (pos b *ℤ (x -ℤ y)) ≤ℤ pos q → (pos b *ℤ y) ≤ℤ pos (m * q) → m < l → (pos b *ℤ x) ≤ℤ pos (l * q)
goes_on b x y l m q h rest less =
    let e = *ℤ-sub (pos b) x y in
    let more : suc m * q ≤ l * q = mul-le-mul_right q less in
    omega (arith, ints)

-- along falling classes down to one that is not above 0
climbs : (n : ℕ) (w : ℕ → ℕ → ℕ) (free : ℕ → Bool) → ((i j : ℕ) → w i j ≡ w j i) → IsGrounded n w free → (p t : ℕ → ℤ) (d : ℕ) → SolvesTable n w free p t d
    → (b : ℕ) → ((i j : ℕ) → i < n → j < n → 0 < w i j → b ≤ w i j)
    → (fuel i : ℕ) → i < n → pos 0 <ℤ t i → low_count n t (t i) ≤ fuel → (pos b *ℤ t i) ≤ℤ pos (low_count n t (t i) * (d * supply n free p))
climbs n w free symmetric grounded p t d s b least zero i h high enough = let some = counted n t i h high in absurd (omega arith)
climbs n w free symmetric grounded p t d s b least (suc fuel) i h high enough =
    let free_there : (c : ℕ) → c < n → le_z (t i) (t c) ≡ true → free c ≡ true =
    λ c k e. elim (cases_Bool (free c)) [ inl is ↦ is | inr u ↦ let none = s.fixed c k u in let over = from_le (t i) (t c) e in absurd (omega (arith, ints)) ] in
    let out = grounded (λ c. le_z (t i) (t c)) free_there i h (is_le (t i) (t i) (omega (arith, ints))) in
    let x = out.inner in
    let y = out.outer in
    let below = from_not_le (t i) (t y) out.outside in
    let step = drop_at b (w x y) (t x) (t y) (t i) (d * supply n free p) (least x y out.inner_below out.outer_below out.joined) (from_le (t i) (t x) out.inside) below
    (cut n w free symmetric p t d s x y out.inner_below out.outer_below) in
    by_lt_z (pos 0) (t y)
    (λ over.
    let less = fewer n t i y h high below in
    goes_on b (t i) (t y) (low_count n t (t i)) (low_count n t (t y)) (d * supply n free p) step
    (climbs n w free symmetric grounded p t d s b least fuel y out.outer_below over (omega arith)) less)
    (λ under. ends b (t i) (t y) (low_count n t (t i)) (d * supply n free p) step under (counted n t i h high))

size : (b : ℕ) (x : ℤ) (l n q : ℕ) → pos 0 <ℤ x → (pos b *ℤ x) ≤ℤ pos (l * q) → l ≤ n → b * nat_abs x ≤ n * q
size b (pos x) l n q high h le = let more = mul-le-mul_right q le in omega (arith, ints)
size b (negsuc x) l n q high h le = absurd (omega (arith, ints))

one_side : (n : ℕ) (w : ℕ → ℕ → ℕ) (free : ℕ → Bool) → ((i j : ℕ) → w i j ≡ w j i) → IsGrounded n w free → (p t : ℕ → ℤ) (d : ℕ) → SolvesTable n w free p t d
    → (b : ℕ) → ((i j : ℕ) → i < n → j < n → 0 < w i j → b ≤ w i j)
    → (i : ℕ) → i < n → pos 0 <ℤ t i → b * nat_abs (t i) ≤ free_count n free * (d * supply n free p)
one_side n w free symmetric grounded p t d s b least i h high =
    let few = total_below-ones n (λ c. cond (lt_z (pos 0) (t c) && le_z (t c) (t i)) 1 0) (λ c. one_at_most (lt_z (pos 0) (t c) && le_z (t c) (t i))) in
    let fewer_than_free = total_below-le n (λ c. cond (lt_z (pos 0) (t c) && le_z (t c) (t i)) 1 0) (λ c. cond (free c) 1 0)
    (λ c k. one_where (lt_z (pos 0) (t c) && le_z (t c) (t i)) (free c) (λ e.
    elim (cases_Bool (free c)) [ inl is ↦ is | inr u ↦ let none = s.fixed c k u in let over = from_lt (pos 0) (t c) (and_parts (lt_z (pos 0) (t c)) (le_z (t c) (t i)) e).0 in absurd (omega (arith, ints)) ])) in
    size b (t i) (low_count n t (t i)) (free_count n free) (d * supply n free p) high
    (climbs n w free symmetric grounded p t d s b least n i h high few) fewer_than_free

pub angle : (n : ℕ) (w : ℕ → ℕ → ℕ) (free : ℕ → Bool) → ((i j : ℕ) → w i j ≡ w j i) → IsGrounded n w free → (p t : ℕ → ℤ) (d : ℕ) → SolvesTable n w free p t d
    → (b : ℕ) → ((i j : ℕ) → i < n → j < n → 0 < w i j → b ≤ w i j)
    → (i : ℕ) → i < n → b * nat_abs (t i) ≤ d * free_count n free * supply n free p
angle n w free symmetric grounded p t d s b least i h =
    by_lt_z (pos 0) (t i)
    (λ high. let e = one_side n w free symmetric grounded p t d s b least i h high in omega arith)
    (λ low. by_lt_z (t i) (pos 0)
    (λ under.
    let e = one_side n w free symmetric grounded (λ c. neg_ℤ (p c)) (λ c. neg_ℤ (t c)) d (SolvesTable-neg n w free p t d s) b least i h (omega (arith, ints)) in
    let same = same_supply n free p in
    let same' : nat_abs (neg_ℤ (t i)) ≡ nat_abs (t i) = omega (arith, ints) in
    let e' : b * nat_abs (t i) ≤ free_count n free * (d * supply n free p) = rw (same, same') at e in
    omega arith)
    (λ over. let none : nat_abs (t i) ≡ 0 = omega (arith, ints) in rw none (omega arith)))
