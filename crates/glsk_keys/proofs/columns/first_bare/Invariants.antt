use Rattle.std.proofs.Common.{◌≡◌, drop}
use Rattle.glsk_keys.specs.Columns.{first_bare}
use Rattle.glsk_keys.proofs.columns.first_bare.Given as goal

abbrev pub invariant-loop-place : goal.invariant-loop-place
invariant-loop-place l = first_bare l.columns l.place (drop l.place l.zones) ≡ first_bare l.columns 0 l.zones
