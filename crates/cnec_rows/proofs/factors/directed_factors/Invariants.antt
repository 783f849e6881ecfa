use Rattle.std.proofs.Common.{◌≡◌, map, take}
use Rattle.cnec_rows.specs.RowNumbers.{directed}
use Rattle.cnec_rows.proofs.factors.directed_factors.Given as goal

abbrev pub invariant-loop-factor : goal.invariant-loop-factor
invariant-loop-factor l = l.factors ≡ map (directed l.against) (take l.factor-index l.factor-items)
