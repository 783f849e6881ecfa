-- What follows of checks that passed.
use Rattle.std.proofs.Common.{◌≡◌, Bool, true, false, ℤ, ◌<ℤ◌, refl, arith}
use Rattle.std.specs.Prelude.{◌≤ℤ◌, ◌&&◌, ◌||◌, not, int_lt, int_le}
use Rattle.std.proofs.lemmas.Int.{ints}

pub both : (a b : Bool) → (a && b) ≡ true → (a ≡ true) × (b ≡ true)
both true true e = (refl, refl)
both true false e = absurd cc
both false b e = absurd cc

pub neither : (a b : Bool) → (a || b) ≡ false → (a ≡ false) × (b ≡ false)
neither true b e = absurd cc
neither false b e = (refl, e)

pub not_not : (a : Bool) → not a ≡ false → a ≡ true
not_not true e = refl
not_not false e = absurd cc

pub at_most : (a b : ℤ) → int_le a b ≡ true → a ≤ℤ b
at_most a b e = grind (arith, ints)

pub above : (a b : ℤ) → int_le a b ≡ false → b <ℤ a
above a b e = grind (arith, ints)

pub not_below : (a b : ℤ) → int_lt a b ≡ false → b ≤ℤ a
not_below a b e = grind (arith, ints)
