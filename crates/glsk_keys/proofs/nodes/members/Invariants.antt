use Rattle.std.proofs.Common.{◌≡◌, take}
use Rattle.glsk_keys.specs.Zones.{members_of}
use Rattle.glsk_keys.proofs.nodes.members.Given as goal

abbrev pub invariant-loop-home : goal.invariant-loop-home
invariant-loop-home l = l.members.items ≡ members_of l.zone (take l.home-index l.homes)
