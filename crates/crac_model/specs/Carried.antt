-- The watts that a current of either sign carries.
use Rattle.std.specs.Prelude.{ℕ, ℤ, pos, negsuc}
use Rattle.crac_model.specs.PowerFound.{the_power}

-- the number of which the inequality holds, and fails of the next
unfoldable pub power_of : ℕ → ℕ → ℕ
power_of current voltage = (the_power current voltage).watts

-- a current that is not positive carries nothing
abbrev pub carried_watts : ℤ → ℕ → ℕ
carried_watts (pos current) voltage = power_of current voltage
carried_watts (negsuc n) voltage = 0
