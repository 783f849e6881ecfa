use Rattle.std.proofs.Common.{◌≡◌}
use Rattle.redundancy.specs.Fates.{IsState}
use Rattle.redundancy.proofs.Changing.{AreClear}
use Rattle.redundancy.proofs.several.release.Given as goal

abbrev pub invariant-loop-i : goal.invariant-loop-i
invariant-loop-i l =
    (l.kept ≡ l.initial.kept) × IsState l.rows l.bounds l.fates l.initial.kept × AreClear l.number l.fates l.i
