use Rattle.std.proofs.Common.{◌≡◌, take}
use Rattle.glsk_keys.specs.Zones.{homes_of}
use Rattle.glsk_keys.proofs.homes.homes.Given as goal

abbrev pub invariant-loop-node : goal.invariant-loop-node
invariant-loop-node l = l.homes.items ≡ homes_of l.zones (take l.node-index l.nodes)
