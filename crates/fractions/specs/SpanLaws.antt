-- Laws, which are proved: nobody need believe them.
-- What lies in the spans lies, once combined, in the combined span.
use Rattle.std.proofs.Common.{◌≡◌, ℤ, pos, negsuc, ◌+ℤ◌, ◌-ℤ◌, ◌*ℤ◌, neg_ℤ, ◌≤ℤ◌, ◌<ℤ◌, List, [], ◌∷◌, Bool, true, false, cond, int_le, ◌⊎◌, inl, inr, ⊎_elim, refl, sym, subst, subst₂, arith}
use Rattle.std.specs.Int.{int_max, int_min}
use Rattle.std.specs.List.{All}
use Rattle.std.proofs.lemmas.Int.{ints, clamps}
use Rattle.std.proofs.lemmas.List.Elements.{All-head, All-tail}
use Rattle.whole_laws.specs.Quotients.{floor_of, ceil_of}
use Rattle.whole_laws.specs.QuotientLaws.{floor-low, ceil-high}
use Rattle.whole_laws.specs.Ring.{ring, linear, scale-≤, anti, weak, sign}
use Rattle.whole_laws.specs.Sums.{sum_over}
use Rattle.fractions.specs.Fractions.{Fraction, whole, plus, times, over, product, negated, minus, maximum, minimum, Same, AtMost, total}
use Rattle.fractions.specs.FractionLaws.{Same_sym, AtMost_refl, AtMost_trans, AtMost-Same, AtMost-whole, whole-AtMost, AtMost-plus, AtMost-times, plus-whole, maximum_left, maximum_right, maximum_least, minimum_left, minimum_right, minimum_greatest}
use Rattle.fractions.specs.Spans.{Lies}

-- ---- spans and order
pub Lies-Same : {p q : Fraction} {low high : ℤ} → Same p q → Lies p low high → Lies q low high
Lies-Same e h = record { above = AtMost_trans h.above (AtMost-Same e); below = AtMost_trans (AtMost-Same (Same_sym e)) h.below }

pub Lies_wider : {p : Fraction} (a b c d : ℤ) → c ≤ℤ a → b ≤ℤ d → Lies p a b → Lies p c d
Lies_wider a b c d x y h = record { above = AtMost_trans (AtMost-whole c a x) h.above; below = AtMost_trans h.below (AtMost-whole b d y) }

-- a span that holds a fraction is not empty
pub Lies_ordered : {p : Fraction} (a b : ℤ) → Lies p a b → a ≤ℤ b
Lies_ordered a b h = whole-AtMost a b (AtMost_trans h.above h.below)

pub Lies-whole : (z a b : ℤ) → a ≤ℤ z → z ≤ℤ b → Lies (whole z) a b
Lies-whole z a b x y = record { above = AtMost-whole a z x; below = AtMost-whole z b y }

pub whole-Lies : (z a b : ℤ) → Lies (whole z) a b → (a ≤ℤ z) × (z ≤ℤ b)
whole-Lies z a b h = (whole-AtMost a z h.above, whole-AtMost z b h.below)

-- ---- sums and differences
pub Lies-plus : {p q : Fraction} (a b c d : ℤ) → Lies p a b → Lies q c d → Lies (plus p q) (a +ℤ c) (b +ℤ d)
Lies-plus a b c d h k = record {
  above = AtMost_trans (AtMost-Same (Same_sym (plus-whole a c))) (AtMost-plus h.above k.above);
  below = AtMost_trans (AtMost-plus h.below k.below) (AtMost-Same (plus-whole b d));
}

pub Lies-negated : {p : Fraction} (a b : ℤ) → Lies p a b → Lies (negated p) (neg_ℤ b) (neg_ℤ a)
Lies-negated {p} a b h = record {
  above = record { at_most = up p.num p.den h.below.at_most };
  below = record { at_most = down p.num p.den h.above.at_most };
}
  where
    up : (n d : ℤ) → (n *ℤ pos 1) ≤ℤ (b *ℤ d) → (neg_ℤ b *ℤ d) ≤ℤ ((negsuc 0 *ℤ n) *ℤ pos 1)
    up n d k =
        let e : neg_ℤ b *ℤ d ≡ neg_ℤ (b *ℤ d) = simp ring in
        let f : (negsuc 0 *ℤ n) *ℤ pos 1 ≡ neg_ℤ (n *ℤ pos 1) = simp ring in
        omega (arith, linear)

    down : (n d : ℤ) → (a *ℤ d) ≤ℤ (n *ℤ pos 1) → ((negsuc 0 *ℤ n) *ℤ pos 1) ≤ℤ (neg_ℤ a *ℤ d)
    down n d k =
        let e : neg_ℤ a *ℤ d ≡ neg_ℤ (a *ℤ d) = simp ring in
        let f : (negsuc 0 *ℤ n) *ℤ pos 1 ≡ neg_ℤ (n *ℤ pos 1) = simp ring in
        omega (arith, linear)

pub Lies-minus : {p q : Fraction} (a b c d : ℤ) → Lies p a b → Lies q c d → Lies (minus p q) (a -ℤ d) (b -ℤ c)
Lies-minus a b c d h k = Lies-plus a b (neg_ℤ d) (neg_ℤ c) h (Lies-negated c d k)

pub Lies-total : {A : Type 0} (f : A → Fraction) (low high : A → ℤ) (xs : List A) → All (λ x. Lies (f x) (low x) (high x)) xs → Lies (total f xs) (sum_over low xs) (sum_over high xs)
Lies-total f low high [] h = record { above = AtMost_refl (whole (pos 0)); below = AtMost_refl (whole (pos 0)) }
Lies-total f low high (x ∷ xs) h = Lies-plus (low x) (high x) (sum_over low xs) (sum_over high xs) (All-head (λ y. Lies (f y) (low y) (high y)) x xs h) (Lies-total f low high xs (All-tail (λ y. Lies (f y) (low y) (high y)) x xs h))

-- ---- multiples, by a number that is not negative and by one of either sign
pub Lies-times : (k : ℤ) {p : Fraction} (a b : ℤ) → pos 0 ≤ℤ k → Lies p a b → Lies (times k p) (k *ℤ a) (k *ℤ b)
Lies-times k a b n h = record { above = AtMost-times k n h.above; below = AtMost-times k n h.below }

pub Lies-scale : (k : ℤ) {p : Fraction} (a b : ℤ) → Lies p a b → Lies (times k p) (int_min (k *ℤ a) (k *ℤ b)) (int_max (k *ℤ a) (k *ℤ b))
Lies-scale k {p} a b h =
    ⊎_elim (λ n. Lies_wider (k *ℤ a) (k *ℤ b) _ _ (omega (arith, linear, clamps)) (omega (arith, linear, clamps)) (Lies-times k a b n h))
    (λ n. Lies_wider (k *ℤ b) (k *ℤ a) _ _ (omega (arith, linear, clamps)) (omega (arith, linear, clamps)) (down n)) (sign k)
  where
    turn : (n d : ℤ) → (negsuc 0 *ℤ (neg_ℤ k *ℤ n)) *ℤ d ≡ (k *ℤ n) *ℤ d
    turn n d = simp ring

    left : neg_ℤ (neg_ℤ k *ℤ b) ≡ k *ℤ b
    left = simp ring

    right : neg_ℤ (neg_ℤ k *ℤ a) ≡ k *ℤ a
    right = simp ring

    down : k ≤ℤ pos 0 → Lies (times k p) (k *ℤ b) (k *ℤ a)
    down n =
        let m : pos 0 ≤ℤ neg_ℤ k = omega (arith, linear, n) in
        let l : Lies (negated (times (neg_ℤ k) p)) (neg_ℤ (neg_ℤ k *ℤ b)) (neg_ℤ (neg_ℤ k *ℤ a)) = Lies-negated _ _ (Lies-times (neg_ℤ k) a b m h) in
        subst₂ (λ (x y : ℤ). Lies (times k p) x y) left right (Lies-Same (record { same = turn p.num p.den }) l)

-- ---- products: they lie between the least and the greatest product of two ends
between : {p : Fraction} (q : Fraction) (a b : ℤ) → Lies p a b
    → (AtMost (times a q) (product p q) × AtMost (product p q) (times b q)) ⊎ (AtMost (times b q) (product p q) × AtMost (product p q) (times a q))
between {p} q a b h = ⊎_elim
    (λ n. inl (record { at_most = up p.num p.den q.num q.den a n h.above.at_most }, record { at_most = down p.num p.den q.num q.den b n h.below.at_most }))
    (λ n. inr (record { at_most = under p.num p.den q.num q.den b n h.below.at_most }, record { at_most = over_it p.num p.den q.num q.den a n h.above.at_most }))
    (sign (q.num *ℤ q.den))
  where
    up : (n m k l z : ℤ) → pos 0 ≤ℤ (k *ℤ l) → (z *ℤ m) ≤ℤ (n *ℤ pos 1) → ((z *ℤ k) *ℤ (m *ℤ l)) ≤ℤ ((n *ℤ k) *ℤ l)
    up n m k l z s x =
        let t = scale-≤ (k *ℤ l) _ _ s x in
        let e : (k *ℤ l) *ℤ (z *ℤ m) ≡ (z *ℤ k) *ℤ (m *ℤ l) = simp ring in
        let f : (k *ℤ l) *ℤ (n *ℤ pos 1) ≡ (n *ℤ k) *ℤ l = simp ring in
        omega (arith, linear)

    down : (n m k l z : ℤ) → pos 0 ≤ℤ (k *ℤ l) → (n *ℤ pos 1) ≤ℤ (z *ℤ m) → ((n *ℤ k) *ℤ l) ≤ℤ ((z *ℤ k) *ℤ (m *ℤ l))
    down n m k l z s x =
        let t = scale-≤ (k *ℤ l) _ _ s x in
        let e : (k *ℤ l) *ℤ (z *ℤ m) ≡ (z *ℤ k) *ℤ (m *ℤ l) = simp ring in
        let f : (k *ℤ l) *ℤ (n *ℤ pos 1) ≡ (n *ℤ k) *ℤ l = simp ring in
        omega (arith, linear)

    under : (n m k l z : ℤ) → (k *ℤ l) ≤ℤ pos 0 → (n *ℤ pos 1) ≤ℤ (z *ℤ m) → ((z *ℤ k) *ℤ (m *ℤ l)) ≤ℤ ((n *ℤ k) *ℤ l)
    under n m k l z s x =
        let t = anti (k *ℤ l) _ _ s x in
        let e : (k *ℤ l) *ℤ (z *ℤ m) ≡ (z *ℤ k) *ℤ (m *ℤ l) = simp ring in
        let f : (k *ℤ l) *ℤ (n *ℤ pos 1) ≡ (n *ℤ k) *ℤ l = simp ring in
        omega (arith, linear)

    over_it : (n m k l z : ℤ) → (k *ℤ l) ≤ℤ pos 0 → (z *ℤ m) ≤ℤ (n *ℤ pos 1) → ((n *ℤ k) *ℤ l) ≤ℤ ((z *ℤ k) *ℤ (m *ℤ l))
    over_it n m k l z s x =
        let t = anti (k *ℤ l) _ _ s x in
        let e : (k *ℤ l) *ℤ (z *ℤ m) ≡ (z *ℤ k) *ℤ (m *ℤ l) = simp ring in
        let f : (k *ℤ l) *ℤ (n *ℤ pos 1) ≡ (n *ℤ k) *ℤ l = simp ring in
        omega (arith, linear)

pub Lies-product : {p q : Fraction} (a b c d : ℤ) → Lies p a b → Lies q c d
    → Lies (product p q) (int_min (int_min (a *ℤ c) (a *ℤ d)) (int_min (b *ℤ c) (b *ℤ d))) (int_max (int_max (a *ℤ c) (a *ℤ d)) (int_max (b *ℤ c) (b *ℤ d)))
Lies-product {p} {q} a b c d h k =
    let l = Lies-scale a {p = q} c d k in
    let r = Lies-scale b {p = q} c d k in
    ⊎_elim
    (λ e. record {
      above = AtMost_trans (AtMost-whole _ _ (omega (arith, linear, clamps))) (AtMost_trans l.above e.0);
      below = AtMost_trans e.1 (AtMost_trans r.below (AtMost-whole _ _ (omega (arith, linear, clamps))));
    })
    (λ e. record {
      above = AtMost_trans (AtMost-whole _ _ (omega (arith, linear, clamps))) (AtMost_trans r.above e.0);
      below = AtMost_trans e.1 (AtMost_trans l.below (AtMost-whole _ _ (omega (arith, linear, clamps))));
    })
    (between q a b h)

-- ---- quotients are rounded outwards
pub Lies-over : {p : Fraction} (a b k : ℤ) (h : pos 0 <ℤ k) → Lies p a b → Lies (over p k h) (floor_of a k) (ceil_of b k)
Lies-over {p} a b k h l = record {
  above = record { at_most = up (floor_of a k) p.num p.den p.positive (floor-low a k h) l.above.at_most };
  below = record { at_most = down (ceil_of b k) p.num p.den p.positive (ceil-high b k h) l.below.at_most };
}
  where
    up : (q n d : ℤ) → pos 0 <ℤ d → (q *ℤ k) ≤ℤ a → (a *ℤ d) ≤ℤ (n *ℤ pos 1) → (q *ℤ (d *ℤ k)) ≤ℤ (n *ℤ pos 1)
    up q n d m x y =
        let s = scale-≤ d _ _ (weak d m) x in
        let e : d *ℤ (q *ℤ k) ≡ q *ℤ (d *ℤ k) = simp ring in
        let f : d *ℤ a ≡ a *ℤ d = simp ring in
        omega (arith, linear)

    down : (q n d : ℤ) → pos 0 <ℤ d → b ≤ℤ (q *ℤ k) → (n *ℤ pos 1) ≤ℤ (b *ℤ d) → (n *ℤ pos 1) ≤ℤ (q *ℤ (d *ℤ k))
    down q n d m x y =
        let s = scale-≤ d _ _ (weak d m) x in
        let e : d *ℤ (q *ℤ k) ≡ q *ℤ (d *ℤ k) = simp ring in
        let f : d *ℤ b ≡ b *ℤ d = simp ring in
        omega (arith, linear)

-- ---- the greater and the lesser of two, and what lies in two spans
pub Lies-maximum : {p q : Fraction} (a b c d : ℤ) → Lies p a b → Lies q c d → Lies (maximum p q) (int_max a c) (int_max b d)
Lies-maximum {p} {q} a b c d h k = record {
  above = ⊎_elim (λ e. AtMost_trans (AtMost-whole _ a (omega (arith, linear, clamps))) (AtMost_trans h.above (maximum_left p q))) (λ e. AtMost_trans (AtMost-whole _ c (omega (arith, linear, clamps))) (AtMost_trans k.above (maximum_right p q))) (in_order a c);
  below = maximum_least p q _ (AtMost_trans h.below (AtMost-whole b _ (omega (arith, linear, clamps)))) (AtMost_trans k.below (AtMost-whole d _ (omega (arith, linear, clamps))));
}
  where
    in_order : (x y : ℤ) → (y ≤ℤ x) ⊎ (x ≤ℤ y)
    in_order x y = by_test (int_le y x) refl
      where
        by_test : (t : Bool) → int_le y x ≡ t → (y ≤ℤ x) ⊎ (x ≤ℤ y)
        by_test true g = inl (omega (arith, ints))
        by_test false g = inr (omega (arith, ints))

pub Lies-minimum : {p q : Fraction} (a b c d : ℤ) → Lies p a b → Lies q c d → Lies (minimum p q) (int_min a c) (int_min b d)
Lies-minimum {p} {q} a b c d h k = record {
  above = minimum_greatest p q _ (AtMost_trans (AtMost-whole _ a (omega (arith, linear, clamps))) h.above) (AtMost_trans (AtMost-whole _ c (omega (arith, linear, clamps))) k.above);
  below = ⊎_elim (λ e. AtMost_trans (minimum_left p q) (AtMost_trans h.below (AtMost-whole b _ (omega (arith, linear, clamps))))) (λ e. AtMost_trans (minimum_right p q) (AtMost_trans k.below (AtMost-whole d _ (omega (arith, linear, clamps))))) (in_order b d);
}
  where
    in_order : (x y : ℤ) → (x ≤ℤ y) ⊎ (y ≤ℤ x)
    in_order x y = by_test (int_le x y) refl
      where
        by_test : (t : Bool) → int_le x y ≡ t → (x ≤ℤ y) ⊎ (y ≤ℤ x)
        by_test true g = inl (omega (arith, ints))
        by_test false g = inr (omega (arith, ints))

pub Lies-meet : {p : Fraction} (a b c d : ℤ) → Lies p a b → Lies p c d → Lies p (int_max a c) (int_min b d)
Lies-meet {p} a b c d h k = record {
  above = ⊎_elim (λ e. subst (λ (z : ℤ). AtMost (whole z) p) (sym e) h.above) (λ e. subst (λ (z : ℤ). AtMost (whole z) p) (sym e) k.above) (max_or a c);
  below = ⊎_elim (λ e. subst (λ (z : ℤ). AtMost p (whole z)) (sym e) h.below) (λ e. subst (λ (z : ℤ). AtMost p (whole z)) (sym e) k.below) (min_or b d);
}
  where
    pick : (t : Bool) (x y : ℤ) → (cond t x y ≡ x) ⊎ (cond t x y ≡ y)
    pick true x y = inl refl
    pick false x y = inr refl

    max_or : (x y : ℤ) → (int_max x y ≡ x) ⊎ (int_max x y ≡ y)
    max_or x y = pick _ x y

    min_or : (x y : ℤ) → (int_min x y ≡ x) ⊎ (int_min x y ≡ y)
    min_or x y = ⊎_elim (λ e. inr e) (λ e. inl e) (pick _ y x)
