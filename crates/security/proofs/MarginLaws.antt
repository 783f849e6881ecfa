-- The shortened margin is the margin.
use Rattle.std.proofs.Common.{◌≡◌, ℤ, pos, negsuc, ◌+ℤ◌, ◌*ℤ◌}
use Rattle.whole_laws.specs.Ring.{ring}
use Rattle.fractions.specs.Fractions.{Fraction, whole, plus, minus, maximum, Same}
use Rattle.fractions.specs.FractionLaws.{Same_refl, Same_sym, Same_trans, Same-minus, Same-maximum, plus-maximum, plus-minus, plus-zero, plus-whole}
use Rattle.security.specs.Margins.{ElementNumbers, room_of, adjustment_of, ram_of, top_of}
use Rattle.security.specs.ShorterForms.{shortened_ram_of}

-- m plus the greatest of a − m, b − m and 0 is the greatest of a, b and m
adjusted : (m a b : Fraction) → Same (plus m (maximum (maximum (minus a m) (minus b m)) (whole (pos 0)))) (maximum (maximum a b) m)
adjusted m a b =
    Same_trans (plus-maximum m (maximum (minus a m) (minus b m)) (whole (pos 0)))
    (Same-maximum (Same_trans (plus-maximum m (minus a m) (minus b m)) (Same-maximum (plus-minus m a) (plus-minus m b))) (plus-zero m))

-- (p − q) − r is p − (q + r)
minus-plus_right : (p q r : Fraction) → Same (minus (minus p q) r) (minus p (plus q r))
minus-plus_right p q r = record { same = step p.num p.den q.num q.den r.num r.den }
  where
    step : (a b c d e f : ℤ) → ((a *ℤ d +ℤ (negsuc 0 *ℤ c) *ℤ b) *ℤ f +ℤ (negsuc 0 *ℤ e) *ℤ (b *ℤ d)) *ℤ (b *ℤ (d *ℤ f)) ≡ (a *ℤ (d *ℤ f) +ℤ (negsuc 0 *ℤ (c *ℤ f +ℤ e *ℤ d)) *ℤ b) *ℤ ((b *ℤ d) *ℤ f)
    step a b c d e f = simp ring

pub ram-shortened : (e : ElementNumbers) (f0core fuaf : Fraction) → Same (ram_of e f0core fuaf) (shortened_ram_of e f0core fuaf)
ram-shortened e f0core fuaf =
    Same_trans (minus-plus_right (plus (room_of e f0core) (adjustment_of e f0core fuaf)) (whole e.coordinated) (whole e.individual))
    (Same-minus (adjusted (room_of e f0core) _ _) (plus-whole e.coordinated e.individual))

-- (((a − f) + d) − v) − w is (((a + d) − v) − w) − f
moved : (a d v w f : Fraction) → Same (minus (minus (plus (minus a f) d) v) w) (minus (minus (minus (plus a d) v) w) f)
moved a d v w f =
    Same_trans (minus-plus_right (plus (minus a f) d) v w)
    (Same_trans (Same-minus (inner a d f) (Same_refl (plus v w)))
    (Same_trans (minus_swap (plus a d) f (plus v w)) (Same-minus (Same_sym (minus-plus_right (plus a d) v w)) (Same_refl f))))
  where
    inner : (p q r : Fraction) → Same (plus (minus p r) q) (minus (plus p q) r)
    inner p q r = record { same = step p.num p.den q.num q.den r.num r.den }
      where
        step : (a b c d e f : ℤ) → ((a *ℤ f +ℤ (negsuc 0 *ℤ e) *ℤ b) *ℤ d +ℤ c *ℤ (b *ℤ f)) *ℤ ((b *ℤ d) *ℤ f) ≡ ((a *ℤ d +ℤ c *ℤ b) *ℤ f +ℤ (negsuc 0 *ℤ e) *ℤ (b *ℤ d)) *ℤ ((b *ℤ f) *ℤ d)
        step a b c d e f = simp ring

    minus_swap : (p q r : Fraction) → Same (minus (minus p q) r) (minus (minus p r) q)
    minus_swap p q r = record { same = step p.num p.den q.num q.den r.num r.den }
      where
        step : (a b c d e f : ℤ) → ((a *ℤ d +ℤ (negsuc 0 *ℤ c) *ℤ b) *ℤ f +ℤ (negsuc 0 *ℤ e) *ℤ (b *ℤ d)) *ℤ ((b *ℤ f) *ℤ d) ≡ ((a *ℤ f +ℤ (negsuc 0 *ℤ e) *ℤ b) *ℤ d +ℤ (negsuc 0 *ℤ c) *ℤ (b *ℤ f)) *ℤ ((b *ℤ d) *ℤ f)
        step a b c d e f = simp ring

-- the margin is what the flow without exchanges of Core leaves below the top
pub ram-top : (e : ElementNumbers) (f0core fuaf : Fraction) → Same (ram_of e f0core fuaf) (minus (top_of e f0core fuaf) f0core)
ram-top e f0core fuaf = moved (minus (whole e.limit) (whole e.reliability_margin)) (adjustment_of e f0core fuaf) (whole e.coordinated) (whole e.individual) f0core
