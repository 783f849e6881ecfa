use Rattle.std.proofs.Common.{◌≡◌, take}
use Rattle.glsk_keys.specs.Measures.{net_of}
use Rattle.glsk_keys.proofs.measures.net.Given as goal

abbrev pub invariant-loop-place : goal.invariant-loop-place
invariant-loop-place l = l.net ≡ net_of (take l.place l.chosen) (take l.place l.nodes)
