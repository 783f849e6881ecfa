-- Bounds whose sums enclose 0 hold a point.
use Rattle.std.proofs.Common.{◌≡◌, ℕ, zero, suc, ◌<◌, Bool, true, false, cond, List, [], ◌∷◌, length, map, ℤ, pos, ◌+ℤ◌, ◌-ℤ◌, refl, ap, ◌∙◌, arith, All}
use Rattle.std.specs.Prelude.{◌≤ℤ◌, slice_get}
use Rattle.std.specs.Int.{int_max}
use Rattle.std.specs.List.{filter}
use Rattle.std.proofs.lemmas.Int.{ints, clamps}
use Rattle.std.proofs.lemmas.List.Elements.{All-head, All-tail, All-cons, All-nil}
use Rattle.whole_laws.specs.Sums.{sum_below, sum_over, at}
use Rattle.fb_types.specs.Domain.{IsPoint, low_of, high_of}
use Rattle.fb_types.specs.declared.rows.Bounds.{Bounds}
use Rattle.run_settings.specs.Laws.{HasBounds, core_bounds}
use Rattle.run_settings.specs.Zones.{least_sum, greatest_sum}
use Rattle.run_settings.specs.declared.model.Zone.{Zone}

-- ---- sums of a list

sum_below-front : (n : ℕ) (f : ℕ → ℤ) → sum_below (suc n) f ≡ f 0 +ℤ sum_below n (λ z. f (suc z))
sum_below-front zero f = omega (arith, ints)
sum_below-front (suc n) f = let h = sum_below-front n f in omega (arith, ints)

sum_of : (xs : List ℤ) → sum_below (length xs) (λ z. at xs z) ≡ sum_over (λ (x : ℤ). x) xs
sum_of [] = refl
sum_of (x ∷ xs) = sum_below-front (length xs) (λ z. at (x ∷ xs) z) ∙ ap (λ (s : ℤ). x +ℤ s) (sum_of xs)

-- ---- a point with a given sum

abbrev Inside : List Bounds → List ℤ → Type 0
Inside bs x = (z : ℕ) → z < length bs → (low_of (slice_get bs z) ≤ℤ at x z) × (at x z ≤ℤ high_of (slice_get bs z))

record Reaches (bs : List Bounds) (total : ℤ) (x : List ℤ) : Type 0 where
  zones : length x ≡ length bs
  inside : Inside bs x
  sum : sum_over (λ (v : ℤ). v) x ≡ total

inside_more : (b : Bounds) (bs : List Bounds) (v : ℤ) (x : List ℤ) → b.low ≤ℤ v → v ≤ℤ b.high → Inside bs x → Inside (b ∷ bs) (v ∷ x)
inside_more b bs v x l h more zero lt = (l, h)
inside_more b bs v x l h more (suc z) lt = more z (omega arith)

reach : (bs : List Bounds) (total : ℤ) → All (λ (b : Bounds). b.low ≤ℤ b.high) bs → sum_over (λ (b : Bounds). b.low) bs ≤ℤ total → total ≤ℤ sum_over (λ (b : Bounds). b.high) bs → (x : List ℤ) × Reaches bs total x
reach [] total ordered low high = ([], record { zones = refl; inside = λ z lt. absurd (omega arith); sum = omega (arith, ints) })
reach (b ∷ bs) total ordered low high =
    let rest : ℤ = sum_over (λ (b : Bounds). b.high) bs in
    let lows : ℤ = sum_over (λ (b : Bounds). b.low) bs in
    let v : ℤ = int_max b.low (total -ℤ rest) in
    let order = All-head (λ (b : Bounds). b.low ≤ℤ b.high) b bs ordered in
    let above : b.low ≤ℤ v = omega (arith, ints, clamps) in
    let below : v ≤ℤ b.high = omega (arith, ints, clamps) in
    let least : lows ≤ℤ (total -ℤ v) = least_left b.low lows rest total v refl low (sums_ordered bs (All-tail (λ (b : Bounds). b.low ≤ℤ b.high) b bs ordered)) in
    let most : (total -ℤ v) ≤ℤ rest = omega (arith, ints, clamps) in
    let more = reach bs (total -ℤ v) (All-tail (λ (b : Bounds). b.low ≤ℤ b.high) b bs ordered) least most in (
      v ∷ more.0,
      record {
        zones = ap suc more.1.zones;
        inside = inside_more b bs v more.0 above below more.1.inside;
        sum = let s = more.1.sum in omega (arith, ints);
      },
    )
  where
    sums_ordered : (bs : List Bounds) → All (λ (b : Bounds). b.low ≤ℤ b.high) bs → sum_over (λ (b : Bounds). b.low) bs ≤ℤ sum_over (λ (b : Bounds). b.high) bs
    sums_ordered [] o = omega (arith, ints)
    sums_ordered (b ∷ bs) o =
        let here = All-head (λ (b : Bounds). b.low ≤ℤ b.high) b bs o in
        let rest = sums_ordered bs (All-tail (λ (b : Bounds). b.low ≤ℤ b.high) b bs o) in
        omega (arith, ints)

    least_left : (low lows rest total v : ℤ) → v ≡ int_max low (total -ℤ rest) → (low +ℤ lows) ≤ℤ total → lows ≤ℤ rest → lows ≤ℤ (total -ℤ v)
    least_left low lows rest total v e l o = omega (arith, ints, clamps)

point_in : (bs : List Bounds) → All (λ (b : Bounds). b.low ≤ℤ b.high) bs → sum_over (λ (b : Bounds). b.low) bs ≤ℤ pos 0 → pos 0 ≤ℤ sum_over (λ (b : Bounds). b.high) bs → (x : List ℤ) × IsPoint bs x
point_in bs ordered low high =
    let r = reach bs (pos 0) ordered low high in
    (r.0, record { zones = r.1.zones; inside = r.1.inside; balanced = sum_of r.0 ∙ r.1.sum })

-- ---- the Core zones

core_ordered : (zones : List Zone) → All HasBounds zones → All (λ (b : Bounds). b.low ≤ℤ b.high) (core_bounds zones)
core_ordered [] h = All-nil (λ (b : Bounds). b.low ≤ℤ b.high)
core_ordered (z ∷ zs) h = by_test z.core (core_ordered zs (All-tail HasBounds z zs h))
  where
    by_test : (b : Bool) → All (λ (b : Bounds). b.low ≤ℤ b.high) (core_bounds zs) → All (λ (b : Bounds). b.low ≤ℤ b.high) (map (λ (z : Zone). z.bounds) (cond b (z ∷ filter (λ (z : Zone). z.core) zs) (filter (λ (z : Zone). z.core) zs)))
    by_test true rest = All-cons (λ (b : Bounds). b.low ≤ℤ b.high) z.bounds (core_bounds zs) (All-head HasBounds z zs h).ordered rest
    by_test false rest = rest

-- a number of the bounds that is 0 outside Core
core_sum : (of : Bounds → ℤ) (zones : List Zone) → All (λ (z : Zone). z.core ≡ false → of z.bounds ≡ pos 0) zones → sum_over of (core_bounds zones) ≡ sum_over (λ (z : Zone). of z.bounds) zones
core_sum of [] h = refl
core_sum of (z ∷ zs) h = by_test z.core refl (core_sum of zs (All-tail (λ (z : Zone). z.core ≡ false → of z.bounds ≡ pos 0) z zs h))
  where
    outside : z.core ≡ false → of z.bounds ≡ pos 0
    outside = All-head (λ (z : Zone). z.core ≡ false → of z.bounds ≡ pos 0) z zs h

    by_test : (b : Bool) → z.core ≡ b → sum_over of (core_bounds zs) ≡ sum_over (λ (z : Zone). of z.bounds) zs
        → sum_over of (map (λ (z : Zone). z.bounds) (cond b (z ∷ filter (λ (z : Zone). z.core) zs) (filter (λ (z : Zone). z.core) zs))) ≡ of z.bounds +ℤ sum_over (λ (z : Zone). of z.bounds) zs
    by_test true e rest = ap (λ (s : ℤ). of z.bounds +ℤ s) rest
    by_test false e rest = let none = outside e in omega (arith, ints)

pub core_point : (zones : List Zone) → All HasBounds zones → least_sum zones ≤ℤ pos 0 → pos 0 ≤ℤ greatest_sum zones → (x : List ℤ) × IsPoint (core_bounds zones) x
core_point zones h low high =
    let lows = core_sum (λ (b : Bounds). b.low) zones (λ k d lt e. ((h k d lt).outside e).0) in
    let highs = core_sum (λ (b : Bounds). b.high) zones (λ k d lt e. ((h k d lt).outside e).1) in
    point_in (core_bounds zones) (core_ordered zones h) (omega (arith, ints)) (omega (arith, ints))
