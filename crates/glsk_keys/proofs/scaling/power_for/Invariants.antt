use Rattle.std.proofs.Common.{◌≡◌, ◌-◌, ◌^◌, pos}
use Rattle.glsk_keys.specs.ScaleFound.{power_up_to}
use Rattle.glsk_keys.proofs.scaling.power_for.Given as goal

abbrev pub invariant-loop-step : goal.invariant-loop-step
invariant-loop-step l = (l.power ≡ pos (10 ^ (12 - l.step))) × (power_up_to (12 - l.step) l.total ≡ power_up_to 12 l.total)
