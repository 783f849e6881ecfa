use Rattle.std.proofs.Common.{drop}
use Rattle.glsk_keys.specs.Homes.{WillBeHomes}
use Rattle.glsk_keys.proofs.homes.homes_of_codes.Given as goal

abbrev pub invariant-loop-place : goal.invariant-loop-place
invariant-loop-place l = WillBeHomes l.table l.place (drop l.place l.zones) l.zones
