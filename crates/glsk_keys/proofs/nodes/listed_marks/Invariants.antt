use Rattle.std.proofs.Common.{◌≡◌, take}
use Rattle.glsk_keys.specs.Zones.{listed_of}
use Rattle.glsk_keys.proofs.nodes.listed_marks.Given as goal

abbrev pub invariant-loop-place : goal.invariant-loop-place
invariant-loop-place l = l.listed.items ≡ listed_of l.count (take l.place-index l.places)
