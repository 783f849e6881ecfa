-- Laws, which are proved: nobody need believe them.
-- What a rounded quotient is.
use Rattle.std.proofs.Common.{◌≡◌, ℕ, ◌+◌, ◌*◌, ◌/◌, ◌^◌, ◌<◌, ◌≤◌, ℤ, pos, negsuc, ◌+ℤ◌, ◌-ℤ◌, ◌*ℤ◌, neg_ℤ, ◌≤ℤ◌, ◌<ℤ◌, ⊎_elim, arith}
use mir.Syntax.{Width}
use mir.Val.{SFits, hbits}
use Rattle.std.specs.Int.{int_rem_euclid}
use Rattle.std.proofs.lemmas.Int.{ints}
use Rattle.whole_laws.specs.Quotients.{floor_of, ceil_of}
use Rattle.whole_laws.specs.Ring.{ring, linear, scale-≤, cancel-≤, cancel-<, sign, anti}

-- what a rounded quotient is
floor_nat : (a b : ℕ) → 0 < b → (a / b * b ≤ a) × (a < (a / b + 1) * b)
floor_nat a b h = omega arith

pub floor-low : (z d : ℤ) → pos 0 <ℤ d → (floor_of z d *ℤ d) ≤ℤ z
floor-low (pos a) (pos b) h = let p : 0 < b = omega (arith, ints) in omega (arith, ints, floor_nat a b p)
floor-low (negsuc a) (pos b) h = let p : 0 < b = omega (arith, ints) in omega (arith, ints, floor_nat a b p)
floor-low z (negsuc b) h = absurd (omega (arith, ints))

pub floor-gap : (z d : ℤ) → pos 0 <ℤ d → z <ℤ (floor_of z d *ℤ d +ℤ d)
floor-gap (pos a) (pos b) h = let p : 0 < b = omega (arith, ints) in omega (arith, ints, floor_nat a b p)
floor-gap (negsuc a) (pos b) h = let p : 0 < b = omega (arith, ints) in omega (arith, ints, floor_nat a b p)
floor-gap z (negsuc b) h = absurd (omega (arith, ints))

pub floor-high : (z d : ℤ) → pos 0 <ℤ d → z <ℤ ((floor_of z d +ℤ pos 1) *ℤ d)
floor-high z d h =
    let e : (floor_of z d +ℤ pos 1) *ℤ d ≡ floor_of z d *ℤ d +ℤ d = simp ring in
    omega (arith, linear, floor-gap z d h)

pub ceil-high : (z d : ℤ) → pos 0 <ℤ d → z ≤ℤ (ceil_of z d *ℤ d)
ceil-high z d h =
    let e : ceil_of z d *ℤ d ≡ neg_ℤ (floor_of (neg_ℤ z) d *ℤ d) = simp ring in
    omega (arith, linear, floor-low (neg_ℤ z) d h)

pub ceil-low : (z d : ℤ) → pos 0 <ℤ d → ((ceil_of z d -ℤ pos 1) *ℤ d) <ℤ z
ceil-low z d h =
    let e : (ceil_of z d -ℤ pos 1) *ℤ d ≡ neg_ℤ ((floor_of (neg_ℤ z) d +ℤ pos 1) *ℤ d) = simp ring in
    omega (arith, linear, floor-high (neg_ℤ z) d h)

pub ceil-gap : (z d : ℤ) → pos 0 <ℤ d → (ceil_of z d *ℤ d) <ℤ (z +ℤ d)
ceil-gap z d h =
    let e : ceil_of z d *ℤ d ≡ neg_ℤ (floor_of (neg_ℤ z) d *ℤ d) = simp ring in
    omega (arith, linear, floor-gap (neg_ℤ z) d h)

-- and there is no other
pub floor_unique : (q z d : ℤ) → pos 0 <ℤ d → (q *ℤ d) ≤ℤ z → z <ℤ (q *ℤ d +ℤ d) → q ≡ floor_of z d
floor_unique q z d h k l =
    let a = floor-low z d h in
    let b = floor-gap z d h in
    let e1 : d *ℤ (q +ℤ pos 1) ≡ q *ℤ d +ℤ d = simp ring in
    let e2 : d *ℤ (floor_of z d +ℤ pos 1) ≡ floor_of z d *ℤ d +ℤ d = simp ring in
    let e3 : d *ℤ q ≡ q *ℤ d = simp ring in
    let e4 : d *ℤ floor_of z d ≡ floor_of z d *ℤ d = simp ring in
    let x : q <ℤ (floor_of z d +ℤ pos 1) = cancel-< d _ _ h (omega (arith, linear)) in
    let y : floor_of z d <ℤ (q +ℤ pos 1) = cancel-< d _ _ h (omega (arith, linear)) in
    omega (arith, linear)

pub ceil_unique : (q z d : ℤ) → pos 0 <ℤ d → z ≤ℤ (q *ℤ d) → (q *ℤ d -ℤ d) <ℤ z → q ≡ ceil_of z d
ceil_unique q z d h k l =
    let e1 : neg_ℤ q *ℤ d ≡ neg_ℤ (q *ℤ d) = simp ring in
    let e = floor_unique (neg_ℤ q) (neg_ℤ z) d h (omega (arith, linear)) (omega (arith, linear)) in
    omega (arith, linear, e)

-- the quotient and the rest
pub parts : (z d : ℤ) → pos 0 <ℤ d → (floor_of z d *ℤ d +ℤ int_rem_euclid z d ≡ z) × (pos 0 ≤ℤ int_rem_euclid z d)
parts (pos a) (pos b) h = let p : 0 < b = omega (arith, ints) in (omega (arith, ints), omega (arith, ints))
parts (negsuc a) (pos b) h = let p : 0 < b = omega (arith, ints) in (omega (arith, ints), omega (arith, ints))
parts z (negsuc b) h = absurd (omega (arith, ints))

pub ceil_exact : (z d : ℤ) → pos 0 <ℤ d → int_rem_euclid z d ≡ pos 0 → floor_of z d ≡ ceil_of z d
ceil_exact z d h e = let p = parts z d h in ceil_unique (floor_of z d) z d h (omega (arith, linear, p.0)) (omega (arith, linear, p.0))

pub ceil_raised : (z d : ℤ) → pos 0 <ℤ d → (int_rem_euclid z d ≡ pos 0 → ⊥) → floor_of z d +ℤ pos 1 ≡ ceil_of z d
ceil_raised z d h n =
    let p = parts z d h in
    let g = floor-gap z d h in
    let e : (floor_of z d +ℤ pos 1) *ℤ d ≡ floor_of z d *ℤ d +ℤ d = simp ring in
    let q : pos 0 <ℤ int_rem_euclid z d = omega (arith, ints, p.1, n) in
    ceil_unique (floor_of z d +ℤ pos 1) z d h (omega (arith, linear)) (omega (arith, linear, p.0))

-- a rounded quotient lies between the number and 0
pub ceil_fits : (w : Width) (z d : ℤ) → 1 < 2 ^ hbits w → SFits w z → pos 0 <ℤ d → SFits w (ceil_of z d)
ceil_fits w z d two f h = ⊎_elim (λ n. above n) (λ n. below n) (sign (ceil_of z d))
  where
    one : pos 1 ≤ℤ d
    one = omega (arith, linear)

    above : pos 0 ≤ℤ ceil_of z d → SFits w (ceil_of z d)
    above n = ⊎_elim (λ m.
        let a = scale-≤ (ceil_of z d -ℤ pos 1) (pos 1) d m one in
        let e : (ceil_of z d -ℤ pos 1) *ℤ pos 1 ≡ ceil_of z d -ℤ pos 1 = simp ring in
        let l = ceil-low z d h in
        omega (arith, ints, a, e, l))
        (λ m. omega (arith, ints)) (sign (ceil_of z d -ℤ pos 1))

    below : ceil_of z d ≤ℤ pos 0 → SFits w (ceil_of z d)
    below n =
        let a = anti (ceil_of z d) (pos 1) d n one in
        let e : ceil_of z d *ℤ pos 1 ≡ ceil_of z d = simp ring in
        let l = ceil-high z d h in
        omega (arith, ints, a, e, l)

pub floor-at_most-ceil : (a b d : ℤ) → pos 0 <ℤ d → a ≤ℤ b → floor_of a d ≤ℤ ceil_of b d
floor-at_most-ceil a b d h k =
    let f = floor-low a d h in
    let g = ceil-high b d h in
    let e1 : d *ℤ floor_of a d ≡ floor_of a d *ℤ d = simp ring in
    let e2 : d *ℤ ceil_of b d ≡ ceil_of b d *ℤ d = simp ring in
    cancel-≤ d (floor_of a d) (ceil_of b d) h (omega (arith, linear, f, g, e1, e2, k))

-- a span grows by less than two when it is divided
pub quotient_gap : (a b k : ℤ) → pos 0 <ℤ k → ((ceil_of b k -ℤ floor_of a k) *ℤ k) <ℤ ((b -ℤ a) +ℤ (k +ℤ k))
quotient_gap a b k h =
    let f = floor-gap a k h in
    let g = ceil-gap b k h in
    let e : (ceil_of b k -ℤ floor_of a k) *ℤ k ≡ ceil_of b k *ℤ k -ℤ floor_of a k *ℤ k = simp ring in
    omega (arith, linear, f, g, e)
