use Rattle.redundancy.specs.Kept.{IsForward}
use Rattle.redundancy.proofs.single.forward.Given as goal

abbrev pub invariant-loop-k : goal.invariant-loop-k
invariant-loop-k l = IsForward l.rows l.bounds l.kept l.k
