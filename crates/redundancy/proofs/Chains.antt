-- What follows from a row that follows does follow.
use Rattle.std.proofs.Common.{◌≡◌, ℕ, ◌+◌, ◌-◌, ◌^◌, ◌<◌, ℤ, pos, ◌+ℤ◌, ◌-ℤ◌, ◌*ℤ◌, List, [], length, sym, ap, ◌∙◌, subst, arith}
use Rattle.std.specs.Prelude.{◌≤ℤ◌, Option, Some, slice_get}
use Rattle.std.specs.Int.{int_max}
use Rattle.std.proofs.lemmas.Int.{ints, clamps}
use Rattle.std.proofs.lemmas.Option.{slice_get-get_or}
use Rattle.whole_laws.specs.Sums.{sum_below, at}
use Rattle.whole_laws.specs.Ring.{add-*ℤ}
use Rattle.whole_laws.specs.SumLaws.{sum_below-add, sum_below-mono}
use Rattle.fb_types.specs.Domain.{greatest, low_of, high_of, row_at, coefficient_of, side_of}
use Rattle.multiplier_search.specs.Corners.{most, corner, room, IsCovered}
use Rattle.fb_types.specs.declared.rows.Bounds.{Bounds}
use Rattle.fb_types.specs.declared.rows.Half.{Half}
use Rattle.multiplier_search.specs.Found.{none_of, one_of}
use Rattle.redundancy.specs.Thinned.{row_of}
use Rattle.redundancy.specs.Kept.{IsFree}

-- the most of a sum is at most the sum of the mosts
greatest-sum : (p q l h : ℤ) → int_max ((p +ℤ q) *ℤ l) ((p +ℤ q) *ℤ h) ≤ℤ (int_max (p *ℤ l) (p *ℤ h) +ℤ int_max (q *ℤ l) (q *ℤ h))
greatest-sum p q l h = omega (arith, ints, clamps, add-*ℤ p q l, add-*ℤ p q h)

apart : (c d e mu nu : ℤ) → e ≡ c +ℤ d → e -ℤ (mu +ℤ nu) ≡ (c -ℤ mu) +ℤ (d -ℤ nu)
apart c d e mu nu h = omega (arith, ints)

most-chain : (bounds : List Bounds) (c d e : ℕ → ℤ) (mu nu : ℤ) → ((z : ℕ) → e z ≡ c z +ℤ d z) → most bounds e (mu +ℤ nu) ≤ℤ (most bounds c mu +ℤ most bounds d nu)
most-chain bounds c d e mu nu h =
    let f = λ (z : ℕ). greatest (slice_get bounds z) (c z -ℤ mu) in
    let g = λ (z : ℕ). greatest (slice_get bounds z) (d z -ℤ nu) in
    let m : most bounds e (mu +ℤ nu) ≤ℤ sum_below (length bounds) (λ z. f z +ℤ g z) =
    sum_below-mono (length bounds) _ _ (λ z l. subst (λ (q : ℤ). greatest (slice_get bounds z) q ≤ℤ (f z +ℤ g z)) (sym (apart (c z) (d z) (e z) mu nu (h z))) (greatest-sum (c z -ℤ mu) (d z -ℤ nu) (low_of (slice_get bounds z)) (high_of (slice_get bounds z)))) in
    omega (arith, ints, m, sum_below-add (length bounds) f g)

-- a single row in between
corner-chain : (x y z : ℤ) → (pos (10 ^ 9) *ℤ x) -ℤ ((pos (10 ^ 9) *ℤ z) +ℤ pos 0) ≡ ((pos (10 ^ 9) *ℤ x) -ℤ ((pos (10 ^ 9) *ℤ y) +ℤ pos 0)) +ℤ ((pos (10 ^ 9) *ℤ y) -ℤ ((pos (10 ^ 9) *ℤ z) +ℤ pos 0))
corner-chain x y z = omega (arith, ints)

corner-box : (x y : ℤ) → (pos (10 ^ 9) *ℤ x) -ℤ pos 0 ≡ ((pos (10 ^ 9) *ℤ x) -ℤ ((pos (10 ^ 9) *ℤ y) +ℤ pos 0)) +ℤ ((pos (10 ^ 9) *ℤ y) -ℤ pos 0)
corner-box x y = omega (arith, ints)

room-chain : (x y z : ℤ) → ((pos (10 ^ 9) *ℤ x *ℤ pos (10 ^ 12)) -ℤ (((pos (10 ^ 9) *ℤ y) +ℤ pos 0) *ℤ pos (10 ^ 12))) +ℤ ((pos (10 ^ 9) *ℤ y *ℤ pos (10 ^ 12)) -ℤ (((pos (10 ^ 9) *ℤ z) +ℤ pos 0) *ℤ pos (10 ^ 12))) ≡ (pos (10 ^ 9) *ℤ x *ℤ pos (10 ^ 12)) -ℤ (((pos (10 ^ 9) *ℤ z) +ℤ pos 0) *ℤ pos (10 ^ 12))
room-chain x y z = omega (arith, ints)

room-box : (x y : ℤ) → ((pos (10 ^ 9) *ℤ x *ℤ pos (10 ^ 12)) -ℤ (((pos (10 ^ 9) *ℤ y) +ℤ pos 0) *ℤ pos (10 ^ 12))) +ℤ ((pos (10 ^ 9) *ℤ y *ℤ pos (10 ^ 12)) -ℤ (pos 0 *ℤ pos (10 ^ 12))) ≡ (pos (10 ^ 9) *ℤ x *ℤ pos (10 ^ 12)) -ℤ (pos 0 *ℤ pos (10 ^ 12))
room-box x y = omega (arith, ints)

joined : (m a b r s t : ℤ) → m ≤ℤ (a +ℤ b) → a ≤ℤ r → b ≤ℤ s → r +ℤ s ≡ t → m ≤ℤ t
joined m a b r s t h k l e = omega (arith, ints)

pub covered-chain : (x y : Half) (rows : List Half) (bounds : List Bounds) (j k : ℕ) (mu nu : ℤ) → row_at rows j ≡ Some y → IsCovered x rows (one_of j) bounds mu → IsCovered y rows (one_of k) bounds nu → IsCovered x rows (one_of k) bounds (mu +ℤ nu)
covered-chain x y rows bounds j k mu nu e f g =
    let is_side : side_of (row_at rows j) ≡ y.r = ap side_of e in
    let chain = most-chain bounds (corner x rows (one_of j)) (corner y rows (one_of k)) (corner x rows (one_of k)) mu nu (λ z. let is_a : coefficient_of (row_at rows j) z ≡ at y.a z = ap (λ (o : Option Half). coefficient_of o z) e in rw is_a (corner-chain (at x.a z) (at y.a z) (coefficient_of (row_at rows k) z))) in
    let rooms : room x rows (one_of j) +ℤ room y rows (one_of k) ≡ room x rows (one_of k) = rw is_side (room-chain x.r y.r (side_of (row_at rows k))) in
    record { fits = joined _ _ _ _ _ _ chain f.fits g.fits rooms }

pub covered-box : (x y : Half) (rows : List Half) (bounds : List Bounds) (j : ℕ) (mu nu : ℤ) → row_at rows j ≡ Some y → IsCovered x rows (one_of j) bounds mu → IsCovered y rows none_of bounds nu → IsCovered x rows none_of bounds (mu +ℤ nu)
covered-box x y rows bounds j mu nu e f g =
    let is_side : side_of (row_at rows j) ≡ y.r = ap side_of e in
    let chain = most-chain bounds (corner x rows (one_of j)) (corner y rows none_of) (corner x rows none_of) mu nu (λ z. let is_a : coefficient_of (row_at rows j) z ≡ at y.a z = ap (λ (o : Option Half). coefficient_of o z) e in rw is_a (corner-box (at x.a z) (at y.a z))) in
    let rooms : room x rows (one_of j) +ℤ room y rows none_of ≡ room x rows none_of = rw is_side (room-box x.r y.r) in
    record { fits = joined _ _ _ _ _ _ chain f.fits g.fits rooms }

-- the row with the number j + 1 stands at j
pub row_at-more : (rows : List Half) (j : ℕ) → j < length rows → row_at rows (j + 1) ≡ Some (row_of rows j)
row_at-more rows j l =
    let e : (j + 1) - 1 ≡ j = omega arith in
    ap (slice_get rows) e ∙ slice_get-get_or rows j (record { a = []; r = pos 0 }) l

-- a row that does not follow from the row at j does not follow from a row from which that one follows
pub free-before : (rows : List Half) (bounds : List Bounds) (k i j : ℕ) (nu : ℤ) → i < length rows → IsCovered (row_of rows i) rows (one_of (j + 1)) bounds nu → IsFree rows bounds k j → IsFree rows bounds k i
free-before rows bounds k i j nu l c f =
    record { never = λ mu d. f.never (mu +ℤ nu) (covered-chain (row_of rows k) (row_of rows i) rows bounds (i + 1) (j + 1) mu nu (row_at-more rows i l) d c) }
