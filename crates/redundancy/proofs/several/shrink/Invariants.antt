use Rattle.std.proofs.Common.{◌≡◌, length}
use Rattle.redundancy.specs.Fates.{IsState}
use Rattle.redundancy.proofs.several.shrink.Given as goal

abbrev pub invariant-loop-k : goal.invariant-loop-k
invariant-loop-k l = (length l.kept ≡ length l.rows) × IsState l.rows l.bounds l.fates l.kept
