-- The two right sides are near each other.
use Rattle.std.proofs.Common.{◌≡◌, ℤ, pos, ◌+ℤ◌, ◌-ℤ◌, ◌*ℤ◌, ◌≤ℤ◌, ◌<ℤ◌, sym, subst, arith}
use Rattle.std.proofs.lemmas.Int.{ints}
use Rattle.whole_laws.specs.Ring.{ring}
use Rattle.whole_laws.specs.Quotients.{floor_of, ceil_of}
use Rattle.whole_laws.specs.QuotientLaws.{quotient_gap}
use Rattle.domain_rows.specs.Brackets.{trillion, least_deviation, greatest_deviation}
use Rattle.row_gaps.specs.WidthLaws.{SidesAreNear}

-- two quotients by t, rounded outwards
near : (t low high least greatest margin deviation : ℤ) → pos 0 <ℤ t → (pos 10 *ℤ (high -ℤ low)) <ℤ margin
    → (pos 10 *ℤ (greatest -ℤ least)) ≤ℤ deviation
    → ((pos 10 *ℤ t) *ℤ (ceil_of (high -ℤ least) t -ℤ floor_of (low -ℤ greatest) t)) <ℤ ((margin +ℤ deviation) +ℤ pos 20 *ℤ t)
near t low high least greatest margin deviation some h k =
    let q = quotient_gap (low -ℤ greatest) (high -ℤ least) t some in
    let e : (pos 10 *ℤ t) *ℤ (ceil_of (high -ℤ least) t -ℤ floor_of (low -ℤ greatest) t) ≡ pos 10 *ℤ ((ceil_of (high -ℤ least) t -ℤ floor_of (low -ℤ greatest) t) *ℤ t) =
    ten t (ceil_of (high -ℤ least) t -ℤ floor_of (low -ℤ greatest) t) in
    subst (λ (z : ℤ). z <ℤ ((margin +ℤ deviation) +ℤ pos 20 *ℤ t)) (sym e)
    (tenfold ((ceil_of (high -ℤ least) t -ℤ floor_of (low -ℤ greatest) t) *ℤ t) q)
  where
    tenfold : (z : ℤ) → z <ℤ (((high -ℤ least) -ℤ (low -ℤ greatest)) +ℤ (t +ℤ t))
        → (pos 10 *ℤ z) <ℤ ((margin +ℤ deviation) +ℤ pos 20 *ℤ t)
    tenfold z q = omega (arith, ints, q, h, k)

    ten : (t x : ℤ) → (pos 10 *ℤ t) *ℤ x ≡ pos 10 *ℤ (x *ℤ t)
    ten t x = simp ring

pub sides_are_near : SidesAreNear
sides_are_near factors bounds ram margin deviation h k =
    near trillion ram.0 ram.1 (least_deviation factors bounds) (greatest_deviation factors bounds) margin deviation
    (record { lt = tt }) h k
