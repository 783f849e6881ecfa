use Rattle.run_settings.specs.Totals.{AreTotals}
use Rattle.run_settings.proofs.zones.sums.Given as goal

abbrev pub invariant-loop-zone : goal.invariant-loop-zone
invariant-loop-zone l = AreTotals l.zones l.zone-index l.low l.high
