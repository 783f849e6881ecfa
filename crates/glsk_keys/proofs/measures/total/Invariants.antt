use Rattle.std.proofs.Common.{◌≡◌, take}
use Rattle.glsk_keys.specs.Measures.{total_of}
use Rattle.glsk_keys.proofs.measures.total.Given as goal

abbrev pub invariant-loop-value : goal.invariant-loop-value
invariant-loop-value l = l.total ≡ total_of (take l.value-index l.values)
