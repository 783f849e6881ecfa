use Rattle.std.proofs.Common.{◌≡◌, ◌++◌, drop}
use Rattle.glsk_keys.specs.Scaling.{weights_from}
use Rattle.glsk_keys.proofs.scaling.weights.Given as goal

abbrev pub invariant-loop-place : goal.invariant-loop-place
invariant-loop-place l = l.weights.items ++ weights_from l.place l.power (drop l.place l.values) ≡ weights_from 0 l.power l.values
