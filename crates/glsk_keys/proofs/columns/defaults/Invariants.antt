use Rattle.std.proofs.Common.{◌≡◌, ◌++◌, drop}
use Rattle.glsk_keys.specs.Columns.{defaults_from}
use Rattle.glsk_keys.specs.Facts.{facts_of}
use Rattle.glsk_keys.proofs.columns.defaults.Given as goal

abbrev pub invariant-loop-place : goal.invariant-loop-place
invariant-loop-place l = l.columns.items ++ defaults_from (facts_of l.known) l.place (drop l.place l.known.zones.now) ≡ defaults_from (facts_of l.known) 0 l.known.zones.now
