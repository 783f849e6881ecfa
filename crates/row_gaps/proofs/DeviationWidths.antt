-- What the coefficients deviate by is small.
use Rattle.std.proofs.Common.{◌≡◌, ℕ, suc, ◌+◌, ◌*◌, ◌^◌, ◌≤◌, ℤ, pos, negsuc, ◌+ℤ◌, ◌-ℤ◌, ◌*ℤ◌, neg_ℤ, ◌≤ℤ◌, ◌<ℤ◌, List, [], ◌∷◌, length, All, refl, arith, mul-le-mul_right}
use Rattle.std.specs.Int.{int_max, int_min}
use Rattle.std.proofs.lemmas.Int.{ints, clamps}
use Rattle.std.proofs.lemmas.List.Elements.{All-head, All-tail}
use Rattle.whole_laws.specs.Ring.{ring, linear}
use Rattle.whole_laws.specs.Quotients.{floor_of}
use Rattle.whole_laws.specs.QuotientLaws.{floor-low, floor-gap}
use Rattle.whole_laws.specs.Sums.{IsWithin}
use Rattle.whole_laws.specs.SumLaws.{within_times}
use Rattle.fb_span.specs.LeastSpans.{least_corner, greatest_corner}
use Rattle.fb_types.specs.declared.rows.Bounds.{Bounds}
use Rattle.domain_rows.specs.Brackets.{trillion, coefficient_of, deviation_of, ends_of_box, least_deviation, greatest_deviation}
use Rattle.row_gaps.specs.Narrow.{IsNarrow, IsOrdered}
use Rattle.row_gaps.specs.WidthLaws.{DeviationsAreSmall}

-- twice the distance of an end from the middle is at most the width and 1
near_middle : (low high : ℤ) (k : ℕ) → high -ℤ low ≡ pos k
    → IsWithin (k + 1) (pos 2 *ℤ (low -ℤ coefficient_of (low, high))) × IsWithin (k + 1) (pos 2 *ℤ (high -ℤ coefficient_of (low, high)))
near_middle low high k e =
    let a = floor_of (low +ℤ high) (pos 2) in
    let l = floor-low (low +ℤ high) (pos 2) (record { lt = tt }) in
    let g = floor-gap (low +ℤ high) (pos 2) (record { lt = tt }) in (
      record { low = omega (arith, ints, e, l, g); high = omega (arith, ints, e, l, g) },
      record { low = omega (arith, ints, e, l, g); high = omega (arith, ints, e, l, g) },
    )

-- twice the products with a number within m
doubled : (n m : ℕ) (d x : ℤ) → IsWithin n (pos 2 *ℤ d) → IsWithin m x
    → (neg_ℤ (pos (n * m)) ≤ℤ (pos 2 *ℤ (d *ℤ x))) × ((pos 2 *ℤ (d *ℤ x)) ≤ℤ pos (n * m))
doubled n m d x h k =
    let w = within_times n m (pos 2 *ℤ d) x h k in
    let e : (pos 2 *ℤ d) *ℤ x ≡ pos 2 *ℤ (d *ℤ x) = simp ring in
    (omega (arith, linear, e, w.low), omega (arith, linear, e, w.high))

corners : (m p q r s : ℤ) → neg_ℤ m ≤ℤ (pos 2 *ℤ p) → (pos 2 *ℤ p) ≤ℤ m → neg_ℤ m ≤ℤ (pos 2 *ℤ q) → (pos 2 *ℤ q) ≤ℤ m
    → neg_ℤ m ≤ℤ (pos 2 *ℤ r) → (pos 2 *ℤ r) ≤ℤ m → neg_ℤ m ≤ℤ (pos 2 *ℤ s) → (pos 2 *ℤ s) ≤ℤ m
    → (int_max (int_max p q) (int_max r s) -ℤ int_min (int_min p q) (int_min r s)) ≤ℤ m
corners m p q r s pl ph ql qh rl rh sl sh = omega (arith, ints, clamps, pl, ph, ql, qh, rl, rh, sl, sh)

-- one zone: at most 10^11·(width + 1)
one_zone : (s : ℤ × ℤ) (b : Bounds) (k : ℕ) → s.1 -ℤ s.0 ≡ pos k → IsWithin (10 ^ 11) b.low → IsWithin (10 ^ 11) b.high
    → (greatest_corner (deviation_of s) (ends_of_box b) -ℤ least_corner (deviation_of s) (ends_of_box b)) ≤ℤ pos ((k + 1) * 10 ^ 11)
one_zone s b k e low high =
    let near = near_middle s.0 s.1 k e in
    let p = doubled (k + 1) (10 ^ 11) (s.0 -ℤ coefficient_of s) b.low near.0 low in
    let q = doubled (k + 1) (10 ^ 11) (s.0 -ℤ coefficient_of s) b.high near.0 high in
    let r = doubled (k + 1) (10 ^ 11) (s.1 -ℤ coefficient_of s) b.low near.1 low in
    let t = doubled (k + 1) (10 ^ 11) (s.1 -ℤ coefficient_of s) b.high near.1 high in
    corners (pos ((k + 1) * 10 ^ 11)) ((s.0 -ℤ coefficient_of s) *ℤ b.low) ((s.0 -ℤ coefficient_of s) *ℤ b.high)
    ((s.1 -ℤ coefficient_of s) *ℤ b.low) ((s.1 -ℤ coefficient_of s) *ℤ b.high) p.0 p.1 q.0 q.1 r.0 r.1 t.0 t.1

-- a number that is not negative
natural : (z : ℤ) → pos 0 ≤ℤ z → (k : ℕ) × (z ≡ pos k)
natural (pos k) h = (k, refl)
natural (negsuc k) h = absurd (omega (arith, ints))

-- ten times this, by how narrow the zone's factor is
narrow_zone : (s : ℤ × ℤ) (b : Bounds) (most : ℤ) → IsOrdered s → IsNarrow trillion most s → IsWithin (10 ^ 11) b.low
    → IsWithin (10 ^ 11) b.high
    → (pos 10 *ℤ (greatest_corner (deviation_of s) (ends_of_box b) -ℤ least_corner (deviation_of s) (ends_of_box b))) ≤ℤ (most +ℤ trillion)
narrow_zone s b most ordered narrow low high =
    let w = natural (s.1 -ℤ s.0) (omega (arith, linear, ordered)) in
    let one = one_zone s b w.0 w.1 low high in
    let e = w.1 in
    let n = narrow in
    omega (arith, ints, one, e, n)

zones : (ss : List (ℤ × ℤ)) (bs : List Bounds) (most : ℤ) → pos 0 <ℤ most → All IsOrdered ss
    → All (IsNarrow trillion most) ss → All (λ b. IsWithin (10 ^ 11) b.low) bs → All (λ b. IsWithin (10 ^ 11) b.high) bs
    → (pos 10 *ℤ (greatest_deviation ss bs -ℤ least_deviation ss bs)) ≤ℤ (pos (length bs) *ℤ (most +ℤ trillion))
zones ss [] most some o h low high = nothing ss
  where
    nothing : (ss : List (ℤ × ℤ))
        → (pos 10 *ℤ (greatest_deviation ss [] -ℤ least_deviation ss [])) ≤ℤ (pos 0 *ℤ (most +ℤ trillion))
    nothing [] = omega (arith, ints)
    nothing (s ∷ ss) = omega (arith, ints)
zones [] (b ∷ bs) most some o h low high = no_less (most +ℤ trillion) (omega (arith, ints, some))
  where
    no_less : (m : ℤ) → pos 0 ≤ℤ m → (pos 10 *ℤ (pos 0 -ℤ pos 0)) ≤ℤ (pos (suc (length bs)) *ℤ m)
    no_less (pos m) n = omega (arith, ints)
    no_less (negsuc m) n = absurd (omega (arith, ints))
zones (s ∷ ss) (b ∷ bs) most some o h low high =
    let rest =
    zones ss bs most some (All-tail IsOrdered s ss o) (All-tail (IsNarrow trillion most) s ss h)
    (All-tail (λ b. IsWithin (10 ^ 11) b.low) b bs low) (All-tail (λ b. IsWithin (10 ^ 11) b.high) b bs high) in
    let first =
    narrow_zone s b most (All-head IsOrdered s ss o) (All-head (IsNarrow trillion most) s ss h)
    (All-head (λ b. IsWithin (10 ^ 11) b.low) b bs low) (All-head (λ b. IsWithin (10 ^ 11) b.high) b bs high) in
    more (length bs) (most +ℤ trillion) (greatest_corner (deviation_of s) (ends_of_box b))
    (least_corner (deviation_of s) (ends_of_box b)) (greatest_deviation ss bs) (least_deviation ss bs) rest first
  where
    more : (n : ℕ) (m g l x y : ℤ) → (pos 10 *ℤ (x -ℤ y)) ≤ℤ (pos n *ℤ m) → (pos 10 *ℤ (g -ℤ l)) ≤ℤ m
        → (pos 10 *ℤ ((g +ℤ x) -ℤ (l +ℤ y))) ≤ℤ (pos (suc n) *ℤ m)
    more n m g l x y h k =
        let e : pos (suc n) *ℤ m ≡ pos n *ℤ m +ℤ m = next n m in
        omega (arith, ints, h, k, e)
      where
        next : (n : ℕ) (m : ℤ) → pos (suc n) *ℤ m ≡ pos n *ℤ m +ℤ m
        next n m = omega (arith, ints)

pub deviations_are_small : DeviationsAreSmall
deviations_are_small factors bounds most some are ordered narrow =
    let all = zones factors bounds most some ordered narrow are.lows are.highs in
    few (length bounds) are.few (most +ℤ trillion) (omega (arith, ints, some)) _ all
  where
    few : (n : ℕ) → n ≤ 64 → (m : ℤ) → pos 0 ≤ℤ m → (z : ℤ) → z ≤ℤ (pos n *ℤ m) → z ≤ℤ (pos 64 *ℤ m)
    few n le (pos m) some z h = omega (arith, ints, h, mul-le-mul_right m le)
    few n le (negsuc m) some z h = absurd (omega (arith, ints))
