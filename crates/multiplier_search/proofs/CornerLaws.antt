-- The best multiplier of the balance is a corner, that is one of the coefficients.
use Rattle.std.proofs.Common.{◌≡◌, ℕ, zero, suc, ◌<◌, ◌^◌, ℤ, pos, neg_ℤ, ◌+ℤ◌, ◌-ℤ◌, ◌*ℤ◌, List, length, cond, sym, arith, subst, inl, inr}
use Rattle.std.specs.Prelude.{◌≤ℤ◌, ◌<ℤ◌, ◌⊎◌, int_le, slice_get}
use Rattle.std.specs.Int.{int_max}
use Rattle.std.proofs.lemmas.Int.{ints, clamps, by_lt_z}
use borrow.Author.Count.{below_more}
use Rattle.whole_laws.specs.Sums.{sum_below, sum_over, IsWithin}
use Rattle.whole_laws.specs.Ring.{sub-*ℤ, scale-≤, neg-*ℤ}
use Rattle.whole_laws.specs.SumLaws.{sum_below-add, sum_below-times, sum_below-same, sum_below-mono}
use Rattle.fb_types.specs.Domain.{greatest, low_of, high_of, Follows, IsRow, combined_side}
use Rattle.multiplier_search.specs.Found.{IsBox}
use Rattle.multiplier_search.specs.Corners.{most_below, most, fall_weight, fall, IsTurn, corner, IsCovered}
use Rattle.fb_types.specs.declared.rows.Bounds.{Bounds}
use Rattle.fb_types.specs.declared.rows.Half.{Half}
use Rattle.fb_types.specs.declared.rows.Mult.{Mult}
use Rattle.std.specs.List.{All, AllAdjacentBelow}

-- a number that is not negative keeps the order of products, and one that is not positive turns it
times_mono_left : (v a b : ℤ) → pos 0 ≤ℤ v → a ≤ℤ b → (v *ℤ a) ≤ℤ (v *ℤ b)
times_mono_left v a b p h = scale-≤ v a b p h

-- the weight of a coefficient that is at most t is its low bound
cond_low : (a t l h : ℤ) → a ≤ℤ t → cond (int_le a t) l h ≡ l
cond_low a t l h p = grind (arith, ints)

cond_high : (a t l h : ℤ) → t <ℤ a → cond (int_le a t) l h ≡ h
cond_high a t l h p = grind (arith, ints)

-- at t the greater product is known, and elsewhere it is one of two
tangent-low : (a t mu l h : ℤ) → l ≤ℤ h → a ≤ℤ t → int_max ((a -ℤ t) *ℤ l) ((a -ℤ t) *ℤ h) ≤ℤ (int_max ((a -ℤ mu) *ℤ l) ((a -ℤ mu) *ℤ h) +ℤ ((mu -ℤ t) *ℤ l))
tangent-low a t mu l h o p =
    let m : ((t -ℤ a) *ℤ l) ≤ℤ ((t -ℤ a) *ℤ h) = scale-≤ (t -ℤ a) l h (omega (arith, ints)) o in
    omega (arith, ints, clamps, m, sub-*ℤ t a l, sub-*ℤ t a h, sub-*ℤ a t l, sub-*ℤ a t h, sub-*ℤ a mu l, sub-*ℤ a mu h, sub-*ℤ mu t l)

tangent-high : (a t mu l h : ℤ) → l ≤ℤ h → t ≤ℤ a → int_max ((a -ℤ t) *ℤ l) ((a -ℤ t) *ℤ h) ≤ℤ (int_max ((a -ℤ mu) *ℤ l) ((a -ℤ mu) *ℤ h) +ℤ ((mu -ℤ t) *ℤ h))
tangent-high a t mu l h o p =
    let m : ((a -ℤ t) *ℤ l) ≤ℤ ((a -ℤ t) *ℤ h) = scale-≤ (a -ℤ t) l h (omega (arith, ints)) o in
    omega (arith, ints, clamps, m, sub-*ℤ a t l, sub-*ℤ a t h, sub-*ℤ a mu l, sub-*ℤ a mu h, sub-*ℤ mu t h)

tangent : (a t mu l h : ℤ) → l ≤ℤ h → int_max ((a -ℤ t) *ℤ l) ((a -ℤ t) *ℤ h) ≤ℤ (int_max ((a -ℤ mu) *ℤ l) ((a -ℤ mu) *ℤ h) +ℤ ((mu -ℤ t) *ℤ cond (int_le a t) l h))
tangent a t mu l h o =
    by_lt_z t a
    (λ p. subst (λ (w : ℤ). int_max ((a -ℤ t) *ℤ l) ((a -ℤ t) *ℤ h) ≤ℤ (int_max ((a -ℤ mu) *ℤ l) ((a -ℤ mu) *ℤ h) +ℤ ((mu -ℤ t) *ℤ w))) (sym (cond_high a t l h p)) (tangent-high a t mu l h o (omega (arith, ints))))
    (λ p. subst (λ (w : ℤ). int_max ((a -ℤ t) *ℤ l) ((a -ℤ t) *ℤ h) ≤ℤ (int_max ((a -ℤ mu) *ℤ l) ((a -ℤ mu) *ℤ h) +ℤ ((mu -ℤ t) *ℤ w))) (sym (cond_low a t l h p)) (tangent-low a t mu l h o p))

-- `most` lies above the line through it at t with any weights that do so zone by zone
above_line : (bounds : List Bounds) (c w : ℕ → ℤ) (t mu : ℤ) (n : ℕ) → ((z : ℕ) → z < n → greatest (slice_get bounds z) (c z -ℤ t) ≤ℤ (greatest (slice_get bounds z) (c z -ℤ mu) +ℤ ((mu -ℤ t) *ℤ w z))) → most_below bounds c t n ≤ℤ (most_below bounds c mu n +ℤ ((mu -ℤ t) *ℤ sum_below n w))
above_line bounds c w t mu n h =
    let g = λ (z : ℕ). greatest (slice_get bounds z) (c z -ℤ mu) in
    let s = λ (z : ℕ). (mu -ℤ t) *ℤ w z in
    let m : most_below bounds c t n ≤ℤ sum_below n (λ z. g z +ℤ s z) = sum_below-mono n _ _ h in
    omega (arith, ints, m, sum_below-add n g s, sum_below-times n (mu -ℤ t) w)

falling : (d s : ℤ) → pos 0 ≤ℤ d → s ≤ℤ pos 0 → (d *ℤ s) ≤ℤ pos 0
falling d s p q = omega (arith, ints, scale-≤ d s (pos 0) p q)

rising : (d s : ℤ) → d ≤ℤ pos 0 → pos 0 ≤ℤ s → (d *ℤ s) ≤ℤ pos 0
rising d s p q = omega (arith, ints, scale-≤ (neg_ℤ d) (pos 0) s (omega (arith, ints)) q, neg-*ℤ d s)

-- to the right of a place with no fall, `most` is no less
pub most-right : (bounds : List Bounds) (c : ℕ → ℤ) (t mu : ℤ) → IsBox bounds → fall bounds c t ≤ℤ pos 0 → t ≤ℤ mu → most bounds c t ≤ℤ most bounds c mu
most-right bounds c t mu b f h =
    let line = above_line bounds c (fall_weight bounds c t) t mu (length bounds) (λ z l. tangent (c z) t mu (low_of (slice_get bounds z)) (high_of (slice_get bounds z)) (b.ordered z l)) in
    let down : ((mu -ℤ t) *ℤ fall bounds c t) ≤ℤ pos 0 = falling (mu -ℤ t) (fall bounds c t) (omega (arith, ints)) f in
    omega (arith, ints, line, down)

-- what holds below n and at n holds below suc n
below_suc : (P : ℕ → Type 0) (n : ℕ) → ((z : ℕ) → z < n → P z) → P n → (z : ℕ) → z < suc n → P z
below_suc P n h k z l = below_more P n h k z (omega arith)

-- either no coefficient is below t, or one of those below t is the greatest of them
pub record IsGreatestBelow (c : ℕ → ℤ) (t : ℤ) (n y : ℕ) : Type 0 where
  pub inside : y < n
  pub below : c y <ℤ t
  pub greatest : (z : ℕ) → z < n → c z <ℤ t → c z ≤ℤ c y

below_before : (c : ℕ → ℤ) (t : ℤ) (n : ℕ) → ((z : ℕ) → z < n → t ≤ℤ c z) ⊎ ((y : ℕ) × IsGreatestBelow c t n y)
below_before c t zero = inl (λ z l. absurd (omega arith))
below_before c t (suc n) =
    by_lt_z (c n) t
    (λ p. elim (below_before c t n) [
      | inl none ↦ inr (n, record { inside = omega arith; below = p; greatest = below_suc (λ (z : ℕ). c z <ℤ t → c z ≤ℤ c n) n (λ z l q. let e = none z l in absurd (omega (arith, ints))) (λ q. omega (arith, ints)) })
      | inr g ↦ by_lt_z (c g.0) (c n)
          (λ q. inr (n, record { inside = omega arith; below = p; greatest = below_suc (λ (z : ℕ). c z <ℤ t → c z ≤ℤ c n) n (λ z l r. let e = g.1.greatest z l r in omega (arith, ints)) (λ r. omega (arith, ints)) }))
          (λ q. inr (g.0, record { inside = let i = g.1.inside in omega arith; below = g.1.below; greatest = below_suc (λ (z : ℕ). c z <ℤ t → c z ≤ℤ c g.0) n g.1.greatest (λ r. q) }))
    ])
    (λ p. elim (below_before c t n) [
      | inl none ↦ inl (below_suc (λ (z : ℕ). t ≤ℤ c z) n none p)
      | inr g ↦ inr (g.0, record { inside = let i = g.1.inside in omega arith; below = g.1.below; greatest = below_suc (λ (z : ℕ). c z <ℤ t → c z ≤ℤ c g.0) n g.1.greatest (λ r. absurd (omega (arith, ints))) })
    ])

-- to the left of the turn, where no coefficient is below it
left-none : (bounds : List Bounds) (c : ℕ → ℤ) (t mu : ℤ) → IsBox bounds → ((z : ℕ) → z < length bounds → t ≤ℤ c z) → mu ≤ℤ t → most bounds c t ≤ℤ most bounds c mu
left-none bounds c t mu b none h =
    let w = λ (z : ℕ). high_of (slice_get bounds z) in
    let line = above_line bounds c w t mu (length bounds) (λ z l. tangent-high (c z) t mu (low_of (slice_get bounds z)) (high_of (slice_get bounds z)) (b.ordered z l) (none z l)) in
    let down : ((mu -ℤ t) *ℤ sum_below (length bounds) w) ≤ℤ pos 0 = rising (mu -ℤ t) (sum_below (length bounds) w) (omega (arith, ints)) b.highs in
    omega (arith, ints, line, down)

-- where y is the corner before it
tangent-before : (a s t mu l h : ℤ) → l ≤ℤ h → s <ℤ t → (a <ℤ t → a ≤ℤ s) → int_max ((a -ℤ t) *ℤ l) ((a -ℤ t) *ℤ h) ≤ℤ (int_max ((a -ℤ mu) *ℤ l) ((a -ℤ mu) *ℤ h) +ℤ ((mu -ℤ t) *ℤ cond (int_le a s) l h))
tangent-before a s t mu l h o p q =
    by_lt_z s a
    (λ r. subst (λ (w : ℤ). int_max ((a -ℤ t) *ℤ l) ((a -ℤ t) *ℤ h) ≤ℤ (int_max ((a -ℤ mu) *ℤ l) ((a -ℤ mu) *ℤ h) +ℤ ((mu -ℤ t) *ℤ w))) (sym (cond_high a s l h r)) (tangent-high a t mu l h o (by_lt_z a t (λ v. let e = q v in absurd (omega (arith, ints))) (λ v. v))))
    (λ r. subst (λ (w : ℤ). int_max ((a -ℤ t) *ℤ l) ((a -ℤ t) *ℤ h) ≤ℤ (int_max ((a -ℤ mu) *ℤ l) ((a -ℤ mu) *ℤ h) +ℤ ((mu -ℤ t) *ℤ w))) (sym (cond_low a s l h r)) (tangent-low a t mu l h o (omega (arith, ints))))

left-before : (bounds : List Bounds) (c : ℕ → ℤ) (t mu : ℤ) (y : ℕ) → IsBox bounds → IsGreatestBelow c t (length bounds) y → pos 0 ≤ℤ fall bounds c (c y) → mu ≤ℤ t → most bounds c t ≤ℤ most bounds c mu
left-before bounds c t mu y b g f h =
    let w = fall_weight bounds c (c y) in
    let line = above_line bounds c w t mu (length bounds) (λ z l. tangent-before (c z) (c y) t mu (low_of (slice_get bounds z)) (high_of (slice_get bounds z)) (b.ordered z l) g.below (g.greatest z l)) in
    let down : ((mu -ℤ t) *ℤ sum_below (length bounds) w) ≤ℤ pos 0 = rising (mu -ℤ t) (sum_below (length bounds) w) (omega (arith, ints)) f in
    omega (arith, ints, line, down)

pub turn-left : (bounds : List Bounds) (c : ℕ → ℤ) (t mu : ℤ) → IsBox bounds → IsTurn bounds c t → mu ≤ℤ t → most bounds c t ≤ℤ most bounds c mu
turn-left bounds c t mu b i h =
    elim (below_before c t (length bounds)) [
      | inl none ↦ left-none bounds c t mu b none h
      | inr g ↦ by_lt_z (pos 0) (fall bounds c (c g.0))
          (λ p. left-before bounds c t mu g.0 b g.1 (omega (arith, ints)) h)
          (λ p. let e = i.least g.0 g.1.inside p in let q = g.1.below in absurd (omega (arith, ints)))
    ]

-- nowhere is `most` less than at the turn
pub turn-least : (bounds : List Bounds) (c : ℕ → ℤ) (t mu : ℤ) → IsBox bounds → IsTurn bounds c t → most bounds c t ≤ℤ most bounds c mu
turn-least bounds c t mu b i =
    by_lt_z mu t
    (λ p. turn-left bounds c t mu b i (omega (arith, ints)))
    (λ p. most-right bounds c t mu b i.still p)

-- the fall becomes less to the right
weight-falls : (a t u l h : ℤ) → l ≤ℤ h → t ≤ℤ u → cond (int_le a u) l h ≤ℤ cond (int_le a t) l h
weight-falls a t u l h o p = grind (arith, ints)

pub fall-falls : (bounds : List Bounds) (c : ℕ → ℤ) (t u : ℤ) → IsBox bounds → t ≤ℤ u → fall bounds c u ≤ℤ fall bounds c t
fall-falls bounds c t u b p =
    sum_below-mono (length bounds) (fall_weight bounds c u) (fall_weight bounds c t) (λ z l. weight-falls (c z) t u (low_of (slice_get bounds z)) (high_of (slice_get bounds z)) (b.ordered z l) p)

-- at a number that no coefficient exceeds nothing falls
pub fall-end : (bounds : List Bounds) (c : ℕ → ℤ) (t : ℤ) → IsBox bounds → ((z : ℕ) → z < length bounds → c z ≤ℤ t) → fall bounds c t ≤ℤ pos 0
fall-end bounds c t b h =
    let e : fall bounds c t ≡ sum_below (length bounds) (λ z. low_of (slice_get bounds z)) =
    sum_below-same (length bounds) _ _ (λ z l. cond_low (c z) t (low_of (slice_get bounds z)) (high_of (slice_get bounds z)) (h z l)) in
    subst (λ (s : ℤ). s ≤ℤ pos 0) (sym e) b.lows

-- ---- Follows

-- with multipliers in order, Follows is that they cover
pub record AreMultipliers (rows : List Half) (mults : List Mult) : Type 0 where
  pub cited : All (λ m. IsRow rows m.row) mults
  pub rising : AllAdjacentBelow (λ m n. m.row < n.row) mults (length mults)
  pub nonnegative : All (λ m. pos 0 ≤ℤ m.value) mults
  pub total : sum_over (λ m. m.value) mults ≤ℤ pos (10 ^ 12)

moved_right : (s m r : ℤ) → m ≤ℤ (r -ℤ s) → (s +ℤ m) ≤ℤ r
moved_right s m r h = omega (arith, ints)

moved_left : (s m r : ℤ) → (s +ℤ m) ≤ℤ r → m ≤ℤ (r -ℤ s)
moved_left s m r h = omega (arith, ints)

pub covered-follows : (target : Half) (rows : List Half) (mults : List Mult) (bounds : List Bounds) (mu : ℤ) → AreMultipliers rows mults → IsWithin (10 ^ 24) mu → IsCovered target rows mults bounds mu → Follows target rows (record { mu = mu; mults = mults }) bounds
covered-follows target rows mults bounds mu m b c = record {
  cited = m.cited;
  rising = m.rising;
  nonnegative = m.nonnegative;
  total = m.total;
  balance = b;
  covers = moved_right (combined_side rows mults *ℤ pos (10 ^ 12)) (most bounds (corner target rows mults) mu) (pos (10 ^ 9) *ℤ target.r *ℤ pos (10 ^ 12)) c.fits;
}

pub follows-covered : (target : Half) (rows : List Half) (mults : List Mult) (bounds : List Bounds) (mu : ℤ) → Follows target rows (record { mu = mu; mults = mults }) bounds → IsCovered target rows mults bounds mu
follows-covered target rows mults bounds mu f =
    record { fits = moved_left (combined_side rows mults *ℤ pos (10 ^ 12)) (most bounds (corner target rows mults) mu) (pos (10 ^ 9) *ℤ target.r *ℤ pos (10 ^ 12)) f.covers }
