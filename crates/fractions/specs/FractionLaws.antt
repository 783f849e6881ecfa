-- Laws, which are proved: nobody need believe them.
-- The laws of fractions: equality, sums, multiples, quotients, order, the greater and the lesser of two.
use Rattle.std.proofs.Common.{◌≡◌, ℤ, pos, negsuc, ◌+ℤ◌, ◌-ℤ◌, ◌*ℤ◌, ◌≤ℤ◌, ◌<ℤ◌, Bool, true, false, cond, int_le, ◌⊎◌, inl, inr, ⊎_elim, refl, sym, ap, subst, ◌∙◌, arith}
use Rattle.std.proofs.lemmas.Int.{ints}
use Rattle.whole_laws.specs.Ring.{ring, linear, mul-positive, scale-≤, cancel-≤, cancel-≡, weak}
use Rattle.fractions.specs.Fractions.{Fraction, whole, plus, times, over, product, negated, minus, maximum, minimum, Same, AtMost}

-- ---- equality is an equivalence
pub Same_refl : (p : Fraction) → Same p p
Same_refl p = record { same = refl }

pub Same_sym : {p q : Fraction} → Same p q → Same q p
Same_sym h = record { same = sym h.same }

pub Same_trans : {p q r : Fraction} → Same p q → Same q r → Same p r
Same_trans {p} {q} {r} h k = record { same = cancel-≡ q.den (p.num *ℤ r.den) (r.num *ℤ p.den) q.positive (step p.num p.den q.num q.den r.num r.den h.same k.same) }
  where
    step : (a b c d e f : ℤ) → a *ℤ d ≡ c *ℤ b → c *ℤ f ≡ e *ℤ d → d *ℤ (a *ℤ f) ≡ d *ℤ (e *ℤ b)
    step a b c d e f h k =
        let x : d *ℤ (a *ℤ f) ≡ (a *ℤ d) *ℤ f = simp ring in
        let y : (c *ℤ b) *ℤ f ≡ b *ℤ (c *ℤ f) = simp ring in
        let z : b *ℤ (e *ℤ d) ≡ d *ℤ (e *ℤ b) = simp ring in
        x ∙ ap (λ v. v *ℤ f) h ∙ y ∙ ap (λ v. b *ℤ v) k ∙ z

-- ---- every operation keeps it
pub Same-plus : {p q r s : Fraction} → Same p q → Same r s → Same (plus p r) (plus q s)
Same-plus {p} {q} {r} {s} h k = record { same = step p.num p.den q.num q.den r.num r.den s.num s.den h.same k.same }
  where
    step : (a b c d e f g h : ℤ) → a *ℤ d ≡ c *ℤ b → e *ℤ h ≡ g *ℤ f → (a *ℤ f +ℤ e *ℤ b) *ℤ (d *ℤ h) ≡ (c *ℤ h +ℤ g *ℤ d) *ℤ (b *ℤ f)
    step a b c d e f g h x y =
        let l : (a *ℤ f +ℤ e *ℤ b) *ℤ (d *ℤ h) ≡ (a *ℤ d) *ℤ (f *ℤ h) +ℤ (e *ℤ h) *ℤ (b *ℤ d) = simp ring in
        let m : (c *ℤ b) *ℤ (f *ℤ h) +ℤ (g *ℤ f) *ℤ (b *ℤ d) ≡ (c *ℤ h +ℤ g *ℤ d) *ℤ (b *ℤ f) = simp ring in
        l ∙ ap (λ v. v *ℤ (f *ℤ h) +ℤ (e *ℤ h) *ℤ (b *ℤ d)) x ∙ ap (λ v. (c *ℤ b) *ℤ (f *ℤ h) +ℤ v *ℤ (b *ℤ d)) y ∙ m

pub Same-times : (k : ℤ) {p q : Fraction} → Same p q → Same (times k p) (times k q)
Same-times k {p} {q} h = record { same = step p.num p.den q.num q.den h.same }
  where
    step : (a b c d : ℤ) → a *ℤ d ≡ c *ℤ b → (k *ℤ a) *ℤ d ≡ (k *ℤ c) *ℤ b
    step a b c d x =
        let l : (k *ℤ a) *ℤ d ≡ k *ℤ (a *ℤ d) = simp ring in
        let m : k *ℤ (c *ℤ b) ≡ (k *ℤ c) *ℤ b = simp ring in
        l ∙ ap (λ v. k *ℤ v) x ∙ m

pub Same-over : {p q : Fraction} (k : ℤ) (h : pos 0 <ℤ k) → Same p q → Same (over p k h) (over q k h)
Same-over {p} {q} k h e = record { same = step p.num p.den q.num q.den e.same }
  where
    step : (a b c d : ℤ) → a *ℤ d ≡ c *ℤ b → a *ℤ (d *ℤ k) ≡ c *ℤ (b *ℤ k)
    step a b c d x =
        let l : a *ℤ (d *ℤ k) ≡ (a *ℤ d) *ℤ k = simp ring in
        let m : (c *ℤ b) *ℤ k ≡ c *ℤ (b *ℤ k) = simp ring in
        l ∙ ap (λ v. v *ℤ k) x ∙ m

pub Same-product : {p q r s : Fraction} → Same p q → Same r s → Same (product p r) (product q s)
Same-product {p} {q} {r} {s} h k = record { same = step p.num p.den q.num q.den r.num r.den s.num s.den h.same k.same }
  where
    step : (a b c d e f g h : ℤ) → a *ℤ d ≡ c *ℤ b → e *ℤ h ≡ g *ℤ f → (a *ℤ e) *ℤ (d *ℤ h) ≡ (c *ℤ g) *ℤ (b *ℤ f)
    step a b c d e f g h x y =
        let l : (a *ℤ e) *ℤ (d *ℤ h) ≡ (a *ℤ d) *ℤ (e *ℤ h) = simp ring in
        let m : (c *ℤ b) *ℤ (g *ℤ f) ≡ (c *ℤ g) *ℤ (b *ℤ f) = simp ring in
        l ∙ ap (λ v. v *ℤ (e *ℤ h)) x ∙ ap (λ v. (c *ℤ b) *ℤ v) y ∙ m

pub Same-negated : {p q : Fraction} → Same p q → Same (negated p) (negated q)
Same-negated h = Same-times (negsuc 0) h

pub Same-minus : {p q r s : Fraction} → Same p q → Same r s → Same (minus p r) (minus q s)
Same-minus h k = Same-plus h (Same-negated k)

-- ---- sums
pub plus_comm : (p q : Fraction) → Same (plus p q) (plus q p)
plus_comm p q = record { same = simp ring }

pub plus_assoc : (p q r : Fraction) → Same (plus (plus p q) r) (plus p (plus q r))
plus_assoc p q r = record { same = simp ring }

pub plus_left_comm : (p q r : Fraction) → Same (plus p (plus q r)) (plus q (plus p r))
plus_left_comm p q r = record { same = simp ring }

pub plus-plus : (p q r s : Fraction) → Same (plus (plus p q) (plus r s)) (plus (plus p r) (plus q s))
plus-plus p q r s = record { same = simp ring }

pub plus-whole : (a b : ℤ) → Same (plus (whole a) (whole b)) (whole (a +ℤ b))
plus-whole a b = record { same = simp ring }

pub zero-plus : (p : Fraction) → Same (plus (whole (pos 0)) p) p
zero-plus p = record { same = simp ring }

pub plus-zero : (p : Fraction) → Same (plus p (whole (pos 0))) p
plus-zero p = record { same = step p.num p.den }
  where
    step : (a b : ℤ) → (a *ℤ pos 1 +ℤ pos 0 *ℤ b) *ℤ b ≡ a *ℤ (b *ℤ pos 1)
    step a b = simp ring

-- ---- differences
pub minus-self : (p : Fraction) → Same (minus p p) (whole (pos 0))
minus-self p = record { same = step p.num p.den }
  where
    step : (a b : ℤ) → (a *ℤ b +ℤ (negsuc 0 *ℤ a) *ℤ b) *ℤ pos 1 ≡ pos 0 *ℤ (b *ℤ b)
    step a b = simp ring (omega (arith, linear))

pub plus-minus : (p q : Fraction) → Same (plus p (minus q p)) q
plus-minus p q = record { same = step p.num p.den q.num q.den }
  where
    step : (a b c d : ℤ) → (a *ℤ (d *ℤ b) +ℤ (c *ℤ b +ℤ (negsuc 0 *ℤ a) *ℤ d) *ℤ b) *ℤ d ≡ c *ℤ (b *ℤ (d *ℤ b))
    step a b c d = simp ring (omega (arith, linear))

pub minus-plus : (p q : Fraction) → Same (minus (plus p q) p) q
minus-plus p q = record { same = step p.num p.den q.num q.den }
  where
    step : (a b c d : ℤ) → ((a *ℤ d +ℤ c *ℤ b) *ℤ b +ℤ (negsuc 0 *ℤ a) *ℤ (b *ℤ d)) *ℤ d ≡ c *ℤ ((b *ℤ d) *ℤ b)
    step a b c d = simp ring (omega (arith, linear))

pub minus-minus : (p q r s : Fraction) → Same (plus (minus p q) (minus r s)) (minus (plus p r) (plus q s))
minus-minus p q r s = record { same = step p.num p.den q.num q.den r.num r.den s.num s.den }
  where
    step : (a b c d e f g h : ℤ) → ((a *ℤ d +ℤ (negsuc 0 *ℤ c) *ℤ b) *ℤ (f *ℤ h) +ℤ (e *ℤ h +ℤ (negsuc 0 *ℤ g) *ℤ f) *ℤ (b *ℤ d)) *ℤ ((b *ℤ f) *ℤ (d *ℤ h))
        ≡ ((a *ℤ f +ℤ e *ℤ b) *ℤ (d *ℤ h) +ℤ (negsuc 0 *ℤ (c *ℤ h +ℤ g *ℤ d)) *ℤ (b *ℤ f)) *ℤ ((b *ℤ d) *ℤ (f *ℤ h))
    step a b c d e f g h = simp ring

pub minus-whole : (a b : ℤ) → Same (minus (whole a) (whole b)) (whole (a -ℤ b))
minus-whole a b = record { same = step }
  where
    step : (a *ℤ pos 1 +ℤ (negsuc 0 *ℤ b) *ℤ pos 1) *ℤ pos 1 ≡ (a -ℤ b) *ℤ (pos 1 *ℤ pos 1)
    step = simp ring

-- p less q, less p less the sum of q and r, is r
pub minus-minus_plus : (p q r : Fraction) → Same (minus (minus p q) (minus p (plus q r))) r
minus-minus_plus p q r = record { same = step p.num p.den q.num q.den r.num r.den }
  where
    step : (a b c d e f : ℤ)
        → ((a *ℤ d +ℤ (negsuc 0 *ℤ c) *ℤ b) *ℤ (b *ℤ (d *ℤ f)) +ℤ (negsuc 0 *ℤ (a *ℤ (d *ℤ f) +ℤ (negsuc 0 *ℤ (c *ℤ f +ℤ e *ℤ d)) *ℤ b)) *ℤ (b *ℤ d)) *ℤ f ≡ e *ℤ ((b *ℤ d) *ℤ (b *ℤ (d *ℤ f)))
    step a b c d e f = simp ring (omega (arith, linear))

-- ---- multiples
pub times-whole : (k a : ℤ) → Same (times k (whole a)) (whole (k *ℤ a))
times-whole k a = record { same = refl }

pub times-plus : (k : ℤ) (p q : Fraction) → Same (times k (plus p q)) (plus (times k p) (times k q))
times-plus k p q = record { same = step p.num p.den q.num q.den }
  where
    step : (a b c d : ℤ) → (k *ℤ (a *ℤ d +ℤ c *ℤ b)) *ℤ (b *ℤ d) ≡ ((k *ℤ a) *ℤ d +ℤ (k *ℤ c) *ℤ b) *ℤ (b *ℤ d)
    step a b c d = simp ring

pub times-minus : (k : ℤ) (p q : Fraction) → Same (times k (minus p q)) (minus (times k p) (times k q))
times-minus k p q = record { same = step p.num p.den q.num q.den }
  where
    step : (a b c d : ℤ) → (k *ℤ (a *ℤ d +ℤ (negsuc 0 *ℤ c) *ℤ b)) *ℤ (b *ℤ d) ≡ ((k *ℤ a) *ℤ d +ℤ (negsuc 0 *ℤ (k *ℤ c)) *ℤ b) *ℤ (b *ℤ d)
    step a b c d = simp ring

pub times-times : (j k : ℤ) (p : Fraction) → Same (times j (times k p)) (times (j *ℤ k) p)
times-times j k p = record { same = simp (ring, times) }

pub times_left_comm : (j k : ℤ) (p : Fraction) → Same (times j (times k p)) (times k (times j p))
times_left_comm j k p = record { same = step p.num p.den }
  where
    step : (n d : ℤ) → (j *ℤ (k *ℤ n)) *ℤ d ≡ (k *ℤ (j *ℤ n)) *ℤ d
    step n d = simp ring

pub add-times : (j k : ℤ) (p : Fraction) → Same (times (j +ℤ k) p) (plus (times j p) (times k p))
add-times j k p = record { same = simp (ring, times) }

pub sub-times : (j k : ℤ) (p : Fraction) → Same (times (j -ℤ k) p) (minus (times j p) (times k p))
sub-times j k p = record { same = step p.num p.den }
  where
    step : (n d : ℤ) → ((j -ℤ k) *ℤ n) *ℤ (d *ℤ d) ≡ ((j *ℤ n) *ℤ d +ℤ (negsuc 0 *ℤ (k *ℤ n)) *ℤ d) *ℤ d
    step n d = simp ring

-- ---- products
pub product_comm : (p q : Fraction) → Same (product p q) (product q p)
product_comm p q = record { same = step p.num p.den q.num q.den }
  where
    step : (a b c d : ℤ) → (a *ℤ c) *ℤ (d *ℤ b) ≡ (c *ℤ a) *ℤ (b *ℤ d)
    step a b c d = simp ring

pub product-whole : (k : ℤ) (p : Fraction) → Same (product (whole k) p) (times k p)
product-whole k p = record { same = step p.num p.den }
  where
    step : (n d : ℤ) → (k *ℤ n) *ℤ d ≡ (k *ℤ n) *ℤ (pos 1 *ℤ d)
    step n d = simp ring

pub whole-product : (a b : ℤ) → Same (product (whole a) (whole b)) (whole (a *ℤ b))
whole-product a b = record { same = simp ring }

-- ---- quotients
pub over-plus : (p q : Fraction) (k : ℤ) (h : pos 0 <ℤ k) → Same (over (plus p q) k h) (plus (over p k h) (over q k h))
over-plus p q k h = record { same = simp (ring, over) }

pub over-times : (j : ℤ) (p : Fraction) (k : ℤ) (h : pos 0 <ℤ k) → Same (over (times j p) k h) (times j (over p k h))
over-times j p k h = record { same = simp (ring, over, times) }

pub times-over : (p : Fraction) (k : ℤ) (h : pos 0 <ℤ k) → Same (times k (over p k h)) p
times-over p k h = record { same = simp (ring, over, times) }

-- a multiple of a whole quotient, where k is j times the divisor
pub times-over-whole : (k j z d : ℤ) (h : pos 0 <ℤ d) → k ≡ j *ℤ d → Same (times k (over (whole z) d h)) (whole (j *ℤ z))
times-over-whole k j z d h e = record { same = ap (λ v. (v *ℤ z) *ℤ pos 1) e ∙ step }
  where
    step : ((j *ℤ d) *ℤ z) *ℤ pos 1 ≡ (j *ℤ z) *ℤ (pos 1 *ℤ d)
    step = simp ring

-- ---- order
pub AtMost_refl : (p : Fraction) → AtMost p p
AtMost_refl p = record { at_most = omega (arith, linear) }

pub AtMost_trans : {p q r : Fraction} → AtMost p q → AtMost q r → AtMost p r
AtMost_trans {p} {q} {r} h k = record { at_most = cancel-≤ q.den _ _ q.positive (step p.num p.den q.num q.den r.num r.den (weak _ p.positive) (weak _ r.positive) h.at_most k.at_most) }
  where
    step : (a b c d e f : ℤ) → pos 0 ≤ℤ b → pos 0 ≤ℤ f → (a *ℤ d) ≤ℤ (c *ℤ b) → (c *ℤ f) ≤ℤ (e *ℤ d) → (d *ℤ (a *ℤ f)) ≤ℤ (d *ℤ (e *ℤ b))
    step a b c d e f pb pf h k =
        let x = scale-≤ f _ _ pf h in
        let y = scale-≤ b _ _ pb k in
        let x1 : f *ℤ (a *ℤ d) ≡ d *ℤ (a *ℤ f) = simp ring in
        let x2 : f *ℤ (c *ℤ b) ≡ b *ℤ (c *ℤ f) = simp ring in
        let x3 : b *ℤ (e *ℤ d) ≡ d *ℤ (e *ℤ b) = simp ring in
        omega (arith, linear)

pub AtMost-Same : {p q : Fraction} → Same p q → AtMost p q
AtMost-Same h = record { at_most = omega (arith, linear, h.same) }

pub AtMost_antisym : {p q : Fraction} → AtMost p q → AtMost q p → Same p q
AtMost_antisym h k = record { same = omega (arith, linear, h.at_most, k.at_most) }

pub AtMost_total : (p q : Fraction) → AtMost p q ⊎ AtMost q p
AtMost_total p q = cases (p.num *ℤ q.den) (q.num *ℤ p.den) refl refl
  where
    cases : (x y : ℤ) → p.num *ℤ q.den ≡ x → q.num *ℤ p.den ≡ y → AtMost p q ⊎ AtMost q p
    cases x y e f = by_test (int_le x y) refl
      where
        by_test : (t : Bool) → int_le x y ≡ t → AtMost p q ⊎ AtMost q p
        by_test true g = inl (record { at_most = omega (arith, ints) })
        by_test false g = inr (record { at_most = omega (arith, ints) })

-- equal numbers in place of both sides
pub AtMost_along : {p q r s : Fraction} → Same p q → Same r s → AtMost q s → AtMost p r
AtMost_along a b h = AtMost_trans (AtMost-Same a) (AtMost_trans h (AtMost-Same (Same_sym b)))

pub AtMost-whole : (a b : ℤ) → a ≤ℤ b → AtMost (whole a) (whole b)
AtMost-whole a b h =
    let x : a *ℤ pos 1 ≡ a = simp ring in
    let y : b *ℤ pos 1 ≡ b = simp ring in
    record { at_most = omega (arith, linear) }

pub whole-AtMost : (a b : ℤ) → AtMost (whole a) (whole b) → a ≤ℤ b
whole-AtMost a b h =
    let x : a *ℤ pos 1 ≡ a = simp ring in
    let y : b *ℤ pos 1 ≡ b = simp ring in
    omega (arith, linear, h.at_most)

pub AtMost-plus : {p q r s : Fraction} → AtMost p q → AtMost r s → AtMost (plus p r) (plus q s)
AtMost-plus {p} {q} {r} {s} h k = record { at_most = step p.num p.den q.num q.den r.num r.den s.num s.den (mul-positive _ _ r.positive s.positive) (mul-positive _ _ p.positive q.positive) h.at_most k.at_most }
  where
    step : (a b c d e f g h : ℤ) → pos 0 <ℤ (f *ℤ h) → pos 0 <ℤ (b *ℤ d) → (a *ℤ d) ≤ℤ (c *ℤ b) → (e *ℤ h) ≤ℤ (g *ℤ f) → ((a *ℤ f +ℤ e *ℤ b) *ℤ (d *ℤ h)) ≤ℤ ((c *ℤ h +ℤ g *ℤ d) *ℤ (b *ℤ f))
    step a b c d e f g h pf pb x y =
        let l : (a *ℤ f +ℤ e *ℤ b) *ℤ (d *ℤ h) ≡ (f *ℤ h) *ℤ (a *ℤ d) +ℤ (b *ℤ d) *ℤ (e *ℤ h) = simp ring in
        let m : (f *ℤ h) *ℤ (c *ℤ b) +ℤ (b *ℤ d) *ℤ (g *ℤ f) ≡ (c *ℤ h +ℤ g *ℤ d) *ℤ (b *ℤ f) = simp ring in
        let x1 = scale-≤ (f *ℤ h) _ _ (weak _ pf) x in
        let y1 = scale-≤ (b *ℤ d) _ _ (weak _ pb) y in
        omega (arith, linear)

pub AtMost-times : (k : ℤ) {p q : Fraction} → pos 0 ≤ℤ k → AtMost p q → AtMost (times k p) (times k q)
AtMost-times k {p} {q} n h = record { at_most = step p.num p.den q.num q.den (scale-≤ k _ _ n h.at_most) }
  where
    step : (a b c d : ℤ) → (k *ℤ (a *ℤ d)) ≤ℤ (k *ℤ (c *ℤ b)) → ((k *ℤ a) *ℤ d) ≤ℤ ((k *ℤ c) *ℤ b)
    step a b c d x =
        let l : (k *ℤ a) *ℤ d ≡ k *ℤ (a *ℤ d) = simp ring in
        let m : k *ℤ (c *ℤ b) ≡ (k *ℤ c) *ℤ b = simp ring in
        omega (arith, linear)

pub AtMost_cancel : (k : ℤ) {p q : Fraction} → pos 0 <ℤ k → AtMost (times k p) (times k q) → AtMost p q
AtMost_cancel k {p} {q} h e = record { at_most = cancel-≤ k _ _ h (step p.num p.den q.num q.den e.at_most) }
  where
    step : (a b c d : ℤ) → ((k *ℤ a) *ℤ d) ≤ℤ ((k *ℤ c) *ℤ b) → (k *ℤ (a *ℤ d)) ≤ℤ (k *ℤ (c *ℤ b))
    step a b c d x =
        let l : (k *ℤ a) *ℤ d ≡ k *ℤ (a *ℤ d) = simp ring in
        let m : k *ℤ (c *ℤ b) ≡ (k *ℤ c) *ℤ b = simp ring in
        omega (arith, linear)

pub AtMost-negated : {p q : Fraction} → AtMost p q → AtMost (negated q) (negated p)
AtMost-negated {p} {q} h = record { at_most = step p.num p.den q.num q.den h.at_most }
  where
    step : (a b c d : ℤ) → (a *ℤ d) ≤ℤ (c *ℤ b) → ((negsuc 0 *ℤ c) *ℤ b) ≤ℤ ((negsuc 0 *ℤ a) *ℤ d)
    step a b c d x =
        let l : (negsuc 0 *ℤ c) *ℤ b ≡ negsuc 0 *ℤ (c *ℤ b) = simp ring in
        let m : (negsuc 0 *ℤ a) *ℤ d ≡ negsuc 0 *ℤ (a *ℤ d) = simp ring in
        let l1 : negsuc 0 *ℤ (c *ℤ b) ≡ pos 0 -ℤ (c *ℤ b) = simp ring in
        let m1 : negsuc 0 *ℤ (a *ℤ d) ≡ pos 0 -ℤ (a *ℤ d) = simp ring in
        omega (arith, linear)

pub AtMost-minus : {p q r s : Fraction} → AtMost p q → AtMost r s → AtMost (minus p s) (minus q r)
AtMost-minus h k = AtMost-plus h (AtMost-negated k)

-- p + q ≤ r exactly where q ≤ r - p
pub to_minus : (p q r : Fraction) → AtMost (plus p q) r → AtMost q (minus r p)
to_minus p q r h = AtMost_trans (AtMost-Same (Same_sym (minus-plus p q))) (AtMost-minus h (AtMost_refl p))

pub from_minus : (p q r : Fraction) → AtMost q (minus r p) → AtMost (plus p q) r
from_minus p q r h = AtMost_trans (AtMost-plus (AtMost_refl p) h) (AtMost-Same (plus-minus p r))

-- ---- the greater of two is one of them, at least both, and at most what both are at most
maximum_is : (p q : Fraction) → (AtMost p q × (maximum p q ≡ q)) ⊎ (AtMost q p × (maximum p q ≡ p))
maximum_is p q = by_test (int_le (p.num *ℤ q.den) (q.num *ℤ p.den)) refl
  where
    by_test : (t : Bool) → int_le (p.num *ℤ q.den) (q.num *ℤ p.den) ≡ t → (AtMost p q × (maximum p q ≡ q)) ⊎ (AtMost q p × (maximum p q ≡ p))
    by_test true g = inl (record { at_most = omega (arith, ints) }, ap (λ t. cond t q p) g)
    by_test false g = inr (record { at_most = omega (arith, ints) }, ap (λ t. cond t q p) g)

pub maximum_one : (p q : Fraction) → (maximum p q ≡ p) ⊎ (maximum p q ≡ q)
maximum_one p q = ⊎_elim (λ e. inr e.1) (λ e. inl e.1) (maximum_is p q)

pub maximum_left : (p q : Fraction) → AtMost p (maximum p q)
maximum_left p q = ⊎_elim (λ e. subst (AtMost p) (sym e.1) e.0) (λ e. subst (AtMost p) (sym e.1) (AtMost_refl p)) (maximum_is p q)

pub maximum_right : (p q : Fraction) → AtMost q (maximum p q)
maximum_right p q = ⊎_elim (λ e. subst (AtMost q) (sym e.1) (AtMost_refl q)) (λ e. subst (AtMost q) (sym e.1) e.0) (maximum_is p q)

pub maximum_least : (p q r : Fraction) → AtMost p r → AtMost q r → AtMost (maximum p q) r
maximum_least p q r h k = ⊎_elim (λ e. subst (λ (x : Fraction). AtMost x r) (sym e) h) (λ e. subst (λ (x : Fraction). AtMost x r) (sym e) k) (maximum_one p q)

pub Same-maximum : {p q r s : Fraction} → Same p q → Same r s → Same (maximum p r) (maximum q s)
Same-maximum {p} {q} {r} {s} h k = AtMost_antisym
    (maximum_least p r _ (AtMost_trans (AtMost-Same h) (maximum_left q s)) (AtMost_trans (AtMost-Same k) (maximum_right q s)))
    (maximum_least q s _ (AtMost_trans (AtMost-Same (Same_sym h)) (maximum_left p r)) (AtMost_trans (AtMost-Same (Same_sym k)) (maximum_right p r)))

pub plus-maximum : (m p q : Fraction) → Same (plus m (maximum p q)) (maximum (plus m p) (plus m q))
plus-maximum m p q = AtMost_antisym
    (from_minus m (maximum p q) (maximum (plus m p) (plus m q)) (maximum_least p q _ (to_minus m p _ (maximum_left (plus m p) (plus m q))) (to_minus m q _ (maximum_right (plus m p) (plus m q)))))
    (maximum_least (plus m p) (plus m q) _ (AtMost-plus (AtMost_refl m) (maximum_left p q)) (AtMost-plus (AtMost_refl m) (maximum_right p q)))

pub times-maximum : (k : ℤ) → pos 0 <ℤ k → (p q : Fraction) → Same (times k (maximum p q)) (maximum (times k p) (times k q))
times-maximum k h p q = AtMost_antisym
    (⊎_elim (λ e. subst (λ (x : Fraction). AtMost (times k x) (maximum (times k p) (times k q))) (sym e) (maximum_left (times k p) (times k q)))
    (λ e. subst (λ (x : Fraction). AtMost (times k x) (maximum (times k p) (times k q))) (sym e) (maximum_right (times k p) (times k q))) (maximum_one p q))
    (maximum_least (times k p) (times k q) _ (AtMost-times k (weak k h) (maximum_left p q)) (AtMost-times k (weak k h) (maximum_right p q)))

-- ---- the lesser of two likewise
minimum_is : (p q : Fraction) → (AtMost p q × (minimum p q ≡ p)) ⊎ (AtMost q p × (minimum p q ≡ q))
minimum_is p q = by_test (int_le (p.num *ℤ q.den) (q.num *ℤ p.den)) refl
  where
    by_test : (t : Bool) → int_le (p.num *ℤ q.den) (q.num *ℤ p.den) ≡ t → (AtMost p q × (minimum p q ≡ p)) ⊎ (AtMost q p × (minimum p q ≡ q))
    by_test true g = inl (record { at_most = omega (arith, ints) }, ap (λ t. cond t p q) g)
    by_test false g = inr (record { at_most = omega (arith, ints) }, ap (λ t. cond t p q) g)

pub minimum_one : (p q : Fraction) → (minimum p q ≡ p) ⊎ (minimum p q ≡ q)
minimum_one p q = ⊎_elim (λ e. inl e.1) (λ e. inr e.1) (minimum_is p q)

pub minimum_left : (p q : Fraction) → AtMost (minimum p q) p
minimum_left p q = ⊎_elim (λ e. subst (λ (x : Fraction). AtMost x p) (sym e.1) (AtMost_refl p)) (λ e. subst (λ (x : Fraction). AtMost x p) (sym e.1) e.0) (minimum_is p q)

pub minimum_right : (p q : Fraction) → AtMost (minimum p q) q
minimum_right p q = ⊎_elim (λ e. subst (λ (x : Fraction). AtMost x q) (sym e.1) e.0) (λ e. subst (λ (x : Fraction). AtMost x q) (sym e.1) (AtMost_refl q)) (minimum_is p q)

pub minimum_greatest : (p q r : Fraction) → AtMost r p → AtMost r q → AtMost r (minimum p q)
minimum_greatest p q r h k = ⊎_elim (λ e. subst (AtMost r) (sym e) h) (λ e. subst (AtMost r) (sym e) k) (minimum_one p q)

pub Same-minimum : {p q r s : Fraction} → Same p q → Same r s → Same (minimum p r) (minimum q s)
Same-minimum {p} {q} {r} {s} h k = AtMost_antisym
    (minimum_greatest q s _ (AtMost_trans (minimum_left p r) (AtMost-Same h)) (AtMost_trans (minimum_right p r) (AtMost-Same k)))
    (minimum_greatest p r _ (AtMost_trans (minimum_left q s) (AtMost-Same (Same_sym h))) (AtMost_trans (minimum_right q s) (AtMost-Same (Same_sym k))))

pub times-minimum : (k : ℤ) → pos 0 <ℤ k → (p q : Fraction) → Same (times k (minimum p q)) (minimum (times k p) (times k q))
times-minimum k h p q = AtMost_antisym
    (minimum_greatest (times k p) (times k q) _ (AtMost-times k (weak k h) (minimum_left p q)) (AtMost-times k (weak k h) (minimum_right p q)))
    (⊎_elim (λ e. subst (λ (x : Fraction). AtMost (minimum (times k p) (times k q)) (times k x)) (sym e) (minimum_left (times k p) (times k q)))
    (λ e. subst (λ (x : Fraction). AtMost (minimum (times k p) (times k q)) (times k x)) (sym e) (minimum_right (times k p) (times k q))) (minimum_one p q))
