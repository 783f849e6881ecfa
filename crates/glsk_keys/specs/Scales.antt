-- The power of ten that the weights of a block are scaled by.
use Rattle.std.specs.Prelude.{◌≡◌, ℕ, ◌^◌, ℤ, pos, ◌*ℤ◌, ◌≤ℤ◌, ◌<ℤ◌}

-- a power of ten with which the sum is at most 10^12, and ten times which is too much
pub record IsScale (total power : ℤ) : Type 0 where
  pub exponent : ℕ
  pub of_ten : power ≡ pos (10 ^ exponent)
  pub fits : (power *ℤ total) ≤ℤ pos (10 ^ 12)
  pub greatest : pos (10 ^ 12) <ℤ (pos 10 *ℤ (power *ℤ total))

-- the power that a sum from 1 to 10^12 is scaled by
pub record Scale (total : ℤ) : Type 0 where
  pub power : ℤ
  pub is : pos 1 ≤ℤ total → total ≤ℤ pos (10 ^ 12) → IsScale total power
