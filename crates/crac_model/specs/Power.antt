-- The power that a current carries at a voltage in three phases: the square root of 3 times their product. Currents are in
-- milliamperes, voltages in volts, powers in watts.
use Rattle.std.specs.Prelude.{ℕ, ◌+◌, ◌*◌, ◌^◌, ◌<◌, ◌≤◌, nat_le, Bool}

-- every limit above 10^11 W counts as 10^11 W
abbrev pub most_watts : ℕ
most_watts = 10 ^ 11

-- the square of the power in square milliwatts: 3·(I·U)²
abbrev pub squared_power : ℕ → ℕ → ℕ
squared_power current voltage = 3 * (current * voltage * (current * voltage))

-- so many watts are not more than the current carries: f²·10^6 ≤ 3·(I·U)²
abbrev pub is_carried : ℕ → ℕ → Bool
is_carried square watts = nat_le (watts * watts * 10 ^ 6) square

-- the greatest number of whole watts that the current carries, or 10^11: the inequality holds of it, and fails of the next
pub record IsPower (current voltage watts : ℕ) : Type 0 where
  pub capped : watts ≤ most_watts
  pub holds : watts * watts * 10 ^ 6 ≤ squared_power current voltage
  pub fails : watts < most_watts → squared_power current voltage < (watts + 1) * (watts + 1) * 10 ^ 6

pub record Power (current voltage : ℕ) : Type 0 where
  pub watts : ℕ
  pub is : IsPower current voltage watts
