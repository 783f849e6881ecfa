-- Rounded quotients of a narrow span, clipped.
use Rattle.std.proofs.Common.{◌≡◌, ℤ, pos, negsuc, ◌+ℤ◌, ◌-ℤ◌, ◌*ℤ◌, ◌≤ℤ◌, ◌<ℤ◌, arith}
use Rattle.std.specs.Int.{int_max, int_min}
use Rattle.std.proofs.lemmas.Int.{ints, clamps}
use Rattle.whole_laws.specs.Ring.{ring, linear, scale-≤, weak, sub-*ℤ}
use Rattle.whole_laws.specs.Quotients.{floor_of, ceil_of}
use Rattle.whole_laws.specs.QuotientLaws.{quotient_gap}

-- fewer than m times k are fewer than m times t, where t is at most k
by_less : (t k m r : ℤ) → pos 0 <ℤ t → t ≤ℤ k → pos 0 ≤ℤ m → (r *ℤ k) <ℤ m → (r *ℤ t) <ℤ m
by_less t k m (pos n) some le nonnegative h =
    let s = scale-≤ (pos n) t k (omega (arith, ints)) le in
    omega (arith, linear, s, h)
by_less t k m (negsuc n) some le nonnegative h =
    let s = scale-≤ t (negsuc n) (negsuc 0) (weak t some) (omega (arith, ints)) in
    let e : t *ℤ negsuc n ≡ negsuc n *ℤ t = turned t (negsuc n) in
    let f : t *ℤ negsuc 0 ≡ pos 0 -ℤ t = minus_one t in
    omega (arith, linear, s, e, f, some, nonnegative)
  where
    turned : (x y : ℤ) → x *ℤ y ≡ y *ℤ x
    turned x y = simp ring

    minus_one : (x : ℤ) → x *ℤ negsuc 0 ≡ pos 0 -ℤ x
    minus_one x = omega (arith, ints)

-- a span of at most m, divided by k and rounded outwards, is narrower than m/t + 2, where t is at most k
pub quotient_narrow : (t k a b m : ℤ) → pos 0 <ℤ t → t ≤ℤ k → pos 0 ≤ℤ m → (b -ℤ a) ≤ℤ m
    → (t *ℤ (ceil_of b k -ℤ floor_of a k)) <ℤ (m +ℤ (t +ℤ t))
quotient_narrow t k a b m some le nonnegative h =
    let q = ceil_of b k -ℤ floor_of a k in
    let gap = quotient_gap a b k (omega (arith, linear, some, le)) in
    let less : (q -ℤ pos 2) *ℤ k ≡ q *ℤ k -ℤ (k +ℤ k) = taken q k in
    let small = by_less t k m (q -ℤ pos 2) some le nonnegative (omega (arith, linear, gap, less, h)) in
    let again : (q -ℤ pos 2) *ℤ t ≡ t *ℤ q -ℤ (t +ℤ t) = swapped q t in
    omega (arith, linear, small, again)
  where
    taken : (q k : ℤ) → (q -ℤ pos 2) *ℤ k ≡ q *ℤ k -ℤ (k +ℤ k)
    taken q k =
        let e = sub-*ℤ q (pos 2) k in
        let two : pos 2 *ℤ k ≡ k +ℤ k = omega (arith, ints) in
        omega (arith, linear, e, two)

    swapped : (q t : ℤ) → (q -ℤ pos 2) *ℤ t ≡ t *ℤ q -ℤ (t +ℤ t)
    swapped q t =
        let e = sub-*ℤ q (pos 2) t in
        let two : pos 2 *ℤ t ≡ t +ℤ t = omega (arith, ints) in
        let same : q *ℤ t ≡ t *ℤ q = simp ring in
        omega (arith, linear, e, two, same)

-- a span is no wider where it is met with another
pub clipped_narrow : (t low high x y m : ℤ) → pos 0 ≤ℤ t → (t *ℤ (high -ℤ low)) <ℤ m
    → (t *ℤ (int_min high y -ℤ int_max low x)) <ℤ m
clipped_narrow t low high x y m some h =
    let s = scale-≤ t (int_min high y -ℤ int_max low x) (high -ℤ low) some (omega (arith, linear, clamps)) in
    omega (arith, linear, s, h)
