use Rattle.std.proofs.Common.{◌≡◌, drop}
use Rattle.std.specs.List.{position_from}
use Rattle.glsk_keys.specs.Zones.{has_id, zone_named}
use Rattle.glsk_keys.proofs.homes.zone_named.Given as goal

abbrev pub invariant-loop-place : goal.invariant-loop-place
invariant-loop-place l = position_from (has_id l.id) l.place (drop l.place l.zones) ≡ zone_named l.zones l.id
