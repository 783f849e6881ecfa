-- How large numbers are at nodes. Nobody need believe these words: they are conditions of private functions.
use Rattle.std.specs.Prelude.{◌^◌, ◌≤◌, ℤ, pos, ◌≤ℤ◌, List, length, All}
use Rattle.whole_laws.specs.Sums.{IsWithin}
use Rattle.fb_types.specs.declared.keys.Weight.{Weight}

-- so few and so small numbers that their sum is far within 128 bits
pub record AreSmall (values : List ℤ) : Type 0 where
  pub few : length values ≤ 4096
  pub each : All (IsWithin (2 ^ 110)) values

-- none is negative
pub record AreWeights (values : List ℤ) : Type 0 where
  pub each : All (λ w. pos 0 ≤ℤ w) values

-- a factor from 0 to 10^6, in millionths
pub record IsFactor (w : Weight) : Type 0 where
  pub low : pos 0 ≤ℤ w.weight
  pub high : w.weight ≤ℤ pos 1000000000000

-- a share from 0 to 100 per cent, in 10^-8
pub record IsShare (share : ℤ) : Type 0 where
  pub low : pos 0 ≤ℤ share
  pub high : share ≤ℤ pos 100000000
