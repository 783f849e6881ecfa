-- For each sum there is such a power of ten. Nobody need believe how it is found: its type says what it is.
use Rattle.std.proofs.Common.{◌≡◌, ℕ, zero, suc, ◌^◌, Bool, true, false, inl, inr, ◌⊎◌, ℤ, pos, ◌*ℤ◌, ◌<ℤ◌, refl, sym, ap, subst, ◌∙◌, arith, cond}
use Rattle.std.specs.Prelude.{◌≤ℤ◌, int_le, if◌then◌else◌}
use Rattle.std.proofs.Math.Nat.{pow-suc}
use Rattle.std.proofs.lemmas.Int.{ints}
use Rattle.whole_laws.specs.Ring.{*ℤ_assoc}
use Rattle.json_reading.proofs.Tests.{at_most, above}
use Rattle.glsk_keys.specs.Scales.{IsScale, Scale}

-- the greatest of 10^most, .., 100, 10 with which the sum is at most 10^12, or 1
unfoldable pub power_up_to : ℕ → ℤ → ℤ
power_up_to zero total = pos 1
power_up_to (suc most) total = if int_le (pos (10 ^ suc most) *ℤ total) (pos (10 ^ 12)) then pos (10 ^ suc most) else power_up_to most total

pub taken : (e : ℕ) (total : ℤ) → (pos (10 ^ suc e) *ℤ total) ≤ℤ pos (10 ^ 12) → power_up_to (suc e) total ≡ pos (10 ^ suc e)
unfolding power_up_to
taken e total h =
    let t : int_le (pos (10 ^ suc e) *ℤ total) (pos (10 ^ 12)) ≡ true = grind (arith, ints) in
    ap (λ (b : Bool). cond b (pos (10 ^ suc e)) (power_up_to e total)) t

pub passed : (e : ℕ) (total : ℤ) → pos (10 ^ 12) <ℤ (pos (10 ^ suc e) *ℤ total) → power_up_to (suc e) total ≡ power_up_to e total
unfolding power_up_to
passed e total h =
    let t : int_le (pos (10 ^ suc e) *ℤ total) (pos (10 ^ 12)) ≡ false = grind (arith, ints) in
    ap (λ (b : Bool). cond b (pos (10 ^ suc e)) (power_up_to e total)) t

pub either : (a b : ℤ) → (a ≤ℤ b) ⊎ (b <ℤ a)
either a b = by_test (int_le a b) refl
  where
    by_test : (t : Bool) → int_le a b ≡ t → (a ≤ℤ b) ⊎ (b <ℤ a)
    by_test true e = inl (at_most a b e)
    by_test false e = inr (above a b e)

scale_up_to : (e : ℕ) (total : ℤ) → total ≤ℤ pos (10 ^ 12) → pos (10 ^ 12) <ℤ (pos (10 ^ suc e) *ℤ total) → IsScale total (power_up_to e total)
unfolding power_up_to
scale_up_to zero total h g = record { exponent = 0; of_ten = refl; fits = omega (arith, ints); greatest = omega (arith, ints) }
scale_up_to (suc e) total h g = elim (either (pos (10 ^ suc e) *ℤ total) (pos (10 ^ 12))) [ inl f ↦ subst (IsScale total) (sym (taken e total f)) (here f) | inr o ↦ subst (IsScale total) (sym (passed e total o)) (scale_up_to e total h o) ]
  where
    here : (pos (10 ^ suc e) *ℤ total) ≤ℤ pos (10 ^ 12) → IsScale total (pos (10 ^ suc e))
    here f = record { exponent = suc e; of_ten = refl; fits = f; greatest = more }
      where
        more : pos (10 ^ 12) <ℤ (pos 10 *ℤ (pos (10 ^ suc e) *ℤ total))
        more =
            let q : pos (10 ^ suc (suc e)) ≡ pos 10 *ℤ pos (10 ^ suc e) = omega (arith, ints, pow-suc 10 (suc e)) in
            let r : (pos 10 *ℤ pos (10 ^ suc e)) *ℤ total ≡ pos 10 *ℤ (pos (10 ^ suc e) *ℤ total) = *ℤ_assoc (pos 10) (pos (10 ^ suc e)) total in
            subst (λ z. pos (10 ^ 12) <ℤ z) (ap (λ z. z *ℤ total) q ∙ r) g

pub scale_for : (total : ℤ) → pos 1 ≤ℤ total → total ≤ℤ pos (10 ^ 12) → IsScale total (power_up_to 12 total)
scale_for total p h = scale_up_to 12 total h (omega (arith, ints))

abbrev pub the_scale : (total : ℤ) → Scale total
the_scale total = record { power = power_up_to 12 total; is = scale_for total }
