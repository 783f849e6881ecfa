use Rattle.std.proofs.Common.{◌≡◌, take}
use Rattle.cnec_rows.specs.RowNumbers.{of_core}
use Rattle.cnec_rows.proofs.factors.core_factors.Given as goal

abbrev pub invariant-loop-zone : goal.invariant-loop-zone
invariant-loop-zone l = l.found ≡ of_core (take l.zone l.flags) (take l.zone l.spans)
