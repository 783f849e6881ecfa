use Rattle.std.proofs.Common.{length, take}
use Rattle.number_groups.specs.Groups.{AreGroups}
use Rattle.number_groups.proofs.fill.Given as goal

abbrev pub invariant-loop-place : goal.invariant-loop-place
invariant-loop-place g l = AreGroups (length l.initial.groups) (take l.place l.numbers) (take l.place l.items) l.groups
