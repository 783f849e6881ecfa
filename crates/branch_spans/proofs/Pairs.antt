-- Spans of one number times another, and of a difference.
use Rattle.std.proofs.Common.{◌≡◌, ℕ, ◌^◌, ℤ, pos, negsuc, ◌+ℤ◌, ◌-ℤ◌, ◌*ℤ◌, ◌≤ℤ◌, ap₂, ◌∙◌, arith}
use Rattle.std.specs.Int.{int_min, int_max}
use Rattle.std.proofs.lemmas.Int.{clamps}
use Rattle.whole_laws.specs.Ring.{ring, linear, scale-≤}
use Rattle.whole_laws.specs.Sums.{IsWithin}
use Rattle.fb_span.specs.Exact.{IsFrom}

pub scaled_is : (b k : ℤ) (a s : ℤ × ℤ) → pos 1 ≤ℤ b → k ≡ b → a.0 ≤ℤ a.1 → s.0 ≡ int_min (k *ℤ a.0) (k *ℤ a.1) → s.1 ≡ int_max (k *ℤ a.0) (k *ℤ a.1) → s ≡ (b *ℤ a.0, b *ℤ a.1)
scaled_is b k a s some same ordered e f =
    let m = scale-≤ b a.0 a.1 (omega (arith, linear)) ordered in
    let low : int_min (b *ℤ a.0) (b *ℤ a.1) ≡ b *ℤ a.0 = omega (arith, linear, clamps, m) in
    let high : int_max (b *ℤ a.0) (b *ℤ a.1) ≡ b *ℤ a.1 = omega (arith, linear, clamps, m) in
    let e' = rw same at e in
    let f' = rw same at f in
    ap₂ (λ x y. (x, y)) (e' ∙ low) (f' ∙ high)

-- (w − kv) − (u + kz) is (w − u) − k(v + z), and the other end likewise
pub difference_is : (k : ℕ) (w v u z : ℤ) (s : ℤ × ℤ) → s.0 ≡ (w -ℤ pos k *ℤ v) -ℤ (u +ℤ pos k *ℤ z) → s.1 ≡ (w +ℤ pos k *ℤ v) -ℤ (u -ℤ pos k *ℤ z)
    → s ≡ ((w -ℤ u) -ℤ pos k *ℤ (v +ℤ z), (w -ℤ u) +ℤ pos k *ℤ (v +ℤ z))
difference_is k w v u z s e f =
    let p : pos k *ℤ (v +ℤ z) ≡ pos k *ℤ v +ℤ pos k *ℤ z = simp ring in
    ap₂ (λ x y. (x, y)) (omega (arith, linear, e, p)) (omega (arith, linear, f, p))

pub subtract_fits : (a b x y : ℤ × ℤ) → a ≡ x → b ≡ y → IsWithin (2 ^ 122) x.0 × IsWithin (2 ^ 122) x.1 → IsWithin (2 ^ 122) y.0 × IsWithin (2 ^ 122) y.1
    → IsFrom (negsuc 170141183460469231731687303715884105727) (pos 170141183460469231731687303715884105727) (a.0 -ℤ b.1)
    × IsFrom (negsuc 170141183460469231731687303715884105727) (pos 170141183460469231731687303715884105727) (a.1 -ℤ b.0)
subtract_fits a b x y ea eb h k = rw (ea, eb) (
  record { above = omega (arith, linear, h.0.low, h.0.high, k.1.low, k.1.high); below = omega (arith, linear, h.0.low, h.0.high, k.1.low, k.1.high) },
  record { above = omega (arith, linear, h.1.low, h.1.high, k.0.low, k.0.high); below = omega (arith, linear, h.1.low, h.1.high, k.0.low, k.0.high) },
)
