use Rattle.std.proofs.Common.{◌≡◌, length}
use Rattle.redundancy.specs.Fates.{IsState, count}
use Rattle.redundancy.proofs.several.settle.Given as goal

abbrev pub invariant-loop : goal.invariant-loop
invariant-loop l = (length l.kept ≡ length l.rows) × IsState l.rows l.bounds l.fates l.kept

abbrev pub decreases-loop : goal.decreases-loop
decreases-loop l = count l.kept
