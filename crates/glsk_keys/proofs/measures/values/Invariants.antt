use Rattle.std.proofs.Common.{◌≡◌, take}
use Rattle.glsk_keys.specs.Measures.{values_of}
use Rattle.glsk_keys.proofs.measures.values.Given as goal

abbrev pub invariant-loop-place : goal.invariant-loop-place
invariant-loop-place l = l.values.items ≡ values_of l.measure (take l.place l.chosen) (take l.place l.nodes)
