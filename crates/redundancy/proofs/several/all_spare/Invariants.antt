use Rattle.redundancy.proofs.Changing.{AreClear}
use Rattle.redundancy.proofs.several.all_spare.Given as goal

abbrev pub invariant-loop-i : goal.invariant-loop-i
invariant-loop-i l = AreClear l.number l.fates l.i
