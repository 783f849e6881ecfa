use Rattle.std.proofs.Common.{length}
use Rattle.glsk_keys.specs.Placing.{WerePlaced}
use Rattle.glsk_keys.proofs.columns.place_series.Given as goal

abbrev pub invariant-loop-column : goal.invariant-loop-column
invariant-loop-column l = WerePlaced l.series.items l.columns.items l.fn.series.items l.fn.defaults.items

abbrev pub decreases-loop-column : goal.decreases-loop-column
decreases-loop-column l = length l.series.items
