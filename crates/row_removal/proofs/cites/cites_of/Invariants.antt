use Rattle.std.proofs.Common.{◌≡◌}
use Rattle.row_removal.specs.Renumbered.{cites_below}
use Rattle.row_removal.proofs.cites.cites_of.Given as goal

abbrev pub invariant-loop-k : goal.invariant-loop-k
invariant-loop-k l = l.cites.items ≡ cites_below l.numbers l.fates l.k
