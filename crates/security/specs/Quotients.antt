-- Quotients of a fraction by a whole number, which always are: a divisor that is not positive counts as 1. All divisors of the
-- definitions of security are positive: denominators of angles, and totals of blocks.
use Rattle.std.proofs.Common.{ℕ, zero, suc, ℤ, pos, negsuc, ◌<ℤ◌, arith}
use Rattle.std.proofs.lemmas.Int.{ints}
use Rattle.fractions.specs.Fractions.{Fraction, over}

-- a divisor: the number itself where it is positive, and 1 where it is not, so that there always is a quotient
abbrev pub divisor_of : ℤ → ℤ
divisor_of (pos zero) = pos 1
divisor_of (pos (suc n)) = pos (suc n)
divisor_of (negsuc n) = pos 1

pub divisor-positive : (z : ℤ) → pos 0 <ℤ divisor_of z
divisor-positive (pos zero) = record { lt = tt }
divisor-positive (pos (suc n)) = positive n
  where
    positive : (n : ℕ) → pos 0 <ℤ pos (suc n)
    positive n = omega (arith, ints)
divisor-positive (negsuc n) = record { lt = tt }

-- a fraction divided by a positive whole number
abbrev pub divided : Fraction → ℤ → Fraction
divided p k = over p (divisor_of k) (divisor-positive k)
