-- A point tells that a row does not follow from another: there that other one leaves more than the row does.
use Rattle.std.proofs.Common.{◌≡◌, ℕ, suc, ◌+◌, ◌<◌, ◌^◌, ℤ, pos, negsuc, ◌+ℤ◌, ◌-ℤ◌, ◌*ℤ◌, List, length, refl, sym, ap, ◌∙◌, subst, arith}
use Rattle.std.specs.Prelude.{◌≤ℤ◌, ◌<ℤ◌, Option, Some, slice_get}
use Rattle.std.proofs.lemmas.Int.{ints, clamps}
use Rattle.std.specs.Int.{int_max}
use Rattle.whole_laws.specs.Sums.{sum_below, at}
use Rattle.whole_laws.specs.Ring.{*ℤ_assoc, neg-*ℤ, sub-*ℤ, scale-≤}
use Rattle.whole_laws.specs.SumLaws.{sum_below-same, sum_below-mono, sum_below-times, sum_below-minus}
use Rattle.fb_types.specs.Domain.{IsPoint, greatest, row_at, coefficient_of, side_of}
use Rattle.multiplier_search.specs.Found.{one_of}
use Rattle.multiplier_search.specs.Corners.{most, corner, IsCovered}
use Rattle.fb_types.specs.declared.rows.Bounds.{Bounds}
use Rattle.fb_types.specs.declared.rows.Half.{Half}
use Rattle.redundancy.specs.Thinned.{row_of}
use Rattle.redundancy.specs.Kept.{IsFree}
use Rattle.redundancy.specs.Points.{value_below, slack_at, IsColumn}
use Rattle.redundancy.proofs.Chains.{row_at-more}

-- a coefficient times a position within the bounds is at most the greater of its products with them
product-bounds : (q x l h : ℤ) → l ≤ℤ x → x ≤ℤ h → (q *ℤ x) ≤ℤ int_max (q *ℤ l) (q *ℤ h)
product-bounds (pos n) x l h p r = omega (arith, ints, clamps, scale-≤ (pos n) x h (omega (arith, ints)) r)
product-bounds (negsuc n) x l h p r =
    omega (arith, ints, clamps, scale-≤ (pos (suc n)) l x (omega (arith, ints)) p, neg-*ℤ (pos (suc n)) x, neg-*ℤ (pos (suc n)) l)

-- what one row at 10^9 and the balance leave of a coefficient, at a position
parts : (a b mu x : ℤ) → (((pos (10 ^ 9) *ℤ a) -ℤ ((pos (10 ^ 9) *ℤ b) +ℤ pos 0)) -ℤ mu) *ℤ x ≡ ((pos (10 ^ 9) *ℤ (a *ℤ x)) -ℤ (pos (10 ^ 9) *ℤ (b *ℤ x))) -ℤ (mu *ℤ x)
parts a b mu x =
    let t : ℤ = (pos (10 ^ 9) *ℤ b) +ℤ pos 0 in
    let e : t ≡ pos (10 ^ 9) *ℤ b = omega (arith, ints) in
    sub-*ℤ ((pos (10 ^ 9) *ℤ a) -ℤ t) mu x
    ∙ ap (λ (s : ℤ). s -ℤ (mu *ℤ x)) (sub-*ℤ (pos (10 ^ 9) *ℤ a) t x ∙ ap (λ (s : ℤ). ((pos (10 ^ 9) *ℤ a) *ℤ x) -ℤ (s *ℤ x)) e)
    ∙ ap (λ (s : ℤ). (s -ℤ ((pos (10 ^ 9) *ℤ b) *ℤ x)) -ℤ (mu *ℤ x)) (*ℤ_assoc (pos (10 ^ 9)) a x)
    ∙ ap (λ (s : ℤ). ((pos (10 ^ 9) *ℤ (a *ℤ x)) -ℤ s) -ℤ (mu *ℤ x)) (*ℤ_assoc (pos (10 ^ 9)) b x)

-- their sum over the zones
left_at : (a b p : ℕ → ℤ) (mu : ℤ) (n : ℕ) → sum_below n p ≡ pos 0 → sum_below n (λ z. (((pos (10 ^ 9) *ℤ a z) -ℤ ((pos (10 ^ 9) *ℤ b z) +ℤ pos 0)) -ℤ mu) *ℤ p z) ≡ (pos (10 ^ 9) *ℤ sum_below n (λ z. a z *ℤ p z)) -ℤ (pos (10 ^ 9) *ℤ sum_below n (λ z. b z *ℤ p z))
left_at a b p mu n h =
    let u = λ (z : ℕ). pos (10 ^ 9) *ℤ (a z *ℤ p z) in
    let v = λ (z : ℕ). pos (10 ^ 9) *ℤ (b z *ℤ p z) in
    let w = λ (z : ℕ). mu *ℤ p z in
    let split = sum_below-same n _ (λ z. (u z -ℤ v z) -ℤ w z) (λ z l. parts (a z) (b z) mu (p z)) in
    let balanced : sum_below n w ≡ pos 0 = sum_below-times n mu p ∙ ap (λ (t : ℤ). mu *ℤ t) h ∙ omega (arith, ints) in
    omega (arith, ints, split, sum_below-minus n (λ z. u z -ℤ v z) w, sum_below-minus n u v, sum_below-times n (pos (10 ^ 9)) (λ z. a z *ℤ p z), sum_below-times n (pos (10 ^ 9)) (λ z. b z *ℤ p z), balanced)

compared : (s c rest m r t : ℤ) → rest ≡ (pos (10 ^ 9) *ℤ s) -ℤ (pos (10 ^ 9) *ℤ c) → rest ≤ℤ m → m ≤ℤ ((pos (10 ^ 9) *ℤ r *ℤ pos (10 ^ 12)) -ℤ (((pos (10 ^ 9) *ℤ t) +ℤ pos 0) *ℤ pos (10 ^ 12))) → ((t *ℤ pos (10 ^ 12)) -ℤ c) ≤ℤ ((r *ℤ pos (10 ^ 12)) -ℤ s)
compared s c rest m r t e h k = omega (arith, ints)

-- where x follows from y, y leaves no more than x at any point
follower-leaves : (x y : Half) (rows : List Half) (bounds : List Bounds) (j : ℕ) (mu : ℤ) (p : List ℤ) → row_at rows j ≡ Some y → IsPoint bounds p → IsCovered x rows (one_of j) bounds mu → slack_at y p ≤ℤ slack_at x p
follower-leaves x y rows bounds j mu p e i f =
    let n = length p in
    let q = λ (z : ℕ). ((pos (10 ^ 9) *ℤ at x.a z) -ℤ ((pos (10 ^ 9) *ℤ at y.a z) +ℤ pos 0)) -ℤ mu in
    let rest : ℤ = sum_below n (λ z. q z *ℤ at p z) in
    let split : rest ≡ (pos (10 ^ 9) *ℤ value_below x p n) -ℤ (pos (10 ^ 9) *ℤ value_below y p n) = left_at (at x.a) (at y.a) (at p) mu n i.balanced in
    let small : rest ≤ℤ sum_below n (λ z. greatest (slice_get bounds z) (q z)) =
    sum_below-mono n _ _ (λ z l. let b = i.inside z (omega (arith, i.zones)) in product-bounds (q z) (at p z) _ _ b.0 b.1) in
    let same : sum_below n (λ z. greatest (slice_get bounds z) (q z)) ≡ most bounds (corner x rows (one_of j)) mu =
    sum_below-same n _ _ (λ z l. let is_b : at y.a z ≡ coefficient_of (row_at rows j) z = sym (ap (λ (o : Option Half). coefficient_of o z) e) in rw is_b refl)
    ∙ ap (λ (k : ℕ). sum_below k (λ z. greatest (slice_get bounds z) (corner x rows (one_of j) z -ℤ mu))) i.zones in
    let is_side : side_of (row_at rows j) ≡ y.r = ap side_of e in
    let fits = f.fits in
    let roomy : most bounds (corner x rows (one_of j)) mu ≤ℤ ((pos (10 ^ 9) *ℤ x.r *ℤ pos (10 ^ 12)) -ℤ (((pos (10 ^ 9) *ℤ y.r) +ℤ pos 0) *ℤ pos (10 ^ 12))) =
    subst (λ (t : ℤ). most bounds (corner x rows (one_of j)) mu ≤ℤ ((pos (10 ^ 9) *ℤ x.r *ℤ pos (10 ^ 12)) -ℤ (((pos (10 ^ 9) *ℤ t) +ℤ pos 0) *ℤ pos (10 ^ 12)))) is_side fits in
    compared (value_below x p n) (value_below y p n) rest (most bounds (corner x rows (one_of j)) mu) x.r y.r split (subst (λ (t : ℤ). rest ≤ℤ t) same small) roomy

-- where the other one leaves more, the row does not follow from it
pub screened : (rows : List Half) (bounds : List Bounds) (column : List ℤ) (k j : ℕ) → IsColumn rows bounds column → k < length rows → j < length rows → at column k <ℤ at column j → IsFree rows bounds k j
screened rows bounds column k j c l m h = record {
  never = λ mu f.
      let s = follower-leaves (row_of rows k) (row_of rows j) rows bounds (j + 1) mu c.point (row_at-more rows j m) c.is_point f in
      let a = c.slacks k l in
      let b = c.slacks j m in
      crossed (at column k) (at column j) (slack_at (row_of rows k) c.point) (slack_at (row_of rows j) c.point) a b h s;
}
  where
    crossed : (a b s t : ℤ) → a ≡ s → b ≡ t → a <ℤ b → t ≤ℤ s → ⊥
    crossed a b s t e f h k = omega (arith, ints)
