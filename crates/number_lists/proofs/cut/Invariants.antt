use Rattle.std.proofs.Common.{take}
use Rattle.number_lists.specs.Words.{IsWord}
use Rattle.number_lists.proofs.cut.Given as goal

abbrev pub invariant-loop-at : goal.invariant-loop-at
invariant-loop-at l = IsWord l.mark (take l.at l.text)
