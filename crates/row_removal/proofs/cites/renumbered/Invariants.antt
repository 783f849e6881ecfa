use Rattle.std.proofs.Common.{◌≡◌, map, take}
use Rattle.row_removal.specs.Renumbered.{renumbered_mult}
use Rattle.row_removal.proofs.cites.renumbered.Given as goal

abbrev pub invariant-loop-m : goal.invariant-loop-m
invariant-loop-m l = l.all.items ≡ map (renumbered_mult l.numbers) (take l.m-index l.mults)
