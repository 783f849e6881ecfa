use Rattle.std.proofs.Common.{◌≡◌, take}
use Rattle.glsk_keys.specs.Measures.{factors_of}
use Rattle.glsk_keys.proofs.measures.factors.Given as goal

abbrev pub invariant-loop-weight : goal.invariant-loop-weight
invariant-loop-weight l = l.factors.items ≡ factors_of l.count (take l.weight-index l.listed)
