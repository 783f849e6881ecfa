-- Multiples of greater and lesser numbers.
use Rattle.std.proofs.Common.{◌≡◌, ℤ, pos, ◌-ℤ◌, ◌*ℤ◌, ◌≤ℤ◌, ◌<ℤ◌, ◌⊎◌, inl, inr, ⊎_elim, Bool, true, false, cond, refl, subst, arith}
use Rattle.std.specs.Int.{int_max}
use Rattle.whole_laws.specs.Ring.{ring, linear, scale-≤}

max_or : (x y : ℤ) → (int_max x y ≡ x) ⊎ (int_max x y ≡ y)
max_or x y = pick _ x y
  where
    pick : (t : Bool) (x y : ℤ) → (cond t x y ≡ x) ⊎ (cond t x y ≡ y)
    pick true x y = inl refl
    pick false x y = inr refl

-- what is at most the greater of two numbers, times a number that is not negative
pub below_greater : (unit most z x y : ℤ) → pos 0 ≤ℤ unit → z ≤ℤ int_max x y → (unit *ℤ x) <ℤ most → (unit *ℤ y) <ℤ most
    → (unit *ℤ z) <ℤ most
below_greater unit most z x y n le h k = ⊎_elim
    (λ e. let s = scale-≤ unit z x n (subst (λ (w : ℤ). z ≤ℤ w) e le) in omega (arith, linear, s, h))
    (λ e. let s = scale-≤ unit z y n (subst (λ (w : ℤ). z ≤ℤ w) e le) in omega (arith, linear, s, k)) (max_or x y)

-- a span of one number
pub no_width : (unit most x : ℤ) → pos 0 <ℤ most → (unit *ℤ (x -ℤ x)) <ℤ most
no_width unit most x h = let e : unit *ℤ (x -ℤ x) ≡ pos 0 = simp ring (omega (arith, linear)) in omega (arith, linear, e, h)
