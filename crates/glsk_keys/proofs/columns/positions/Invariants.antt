use Rattle.std.proofs.Common.{◌≡◌, map}
use Rattle.std.specs.List.{range_with_len}
use Rattle.glsk_keys.specs.Columns.{position_of}
use Rattle.glsk_keys.specs.Facts.{facts_of}
use Rattle.glsk_keys.proofs.columns.positions.Given as goal

abbrev pub invariant-loop-place : goal.invariant-loop-place
invariant-loop-place l = l.positions.items ≡ map (position_of (facts_of l.known)) (range_with_len 0 l.place)
