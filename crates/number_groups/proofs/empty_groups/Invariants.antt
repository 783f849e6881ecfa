use Rattle.std.proofs.Common.{◌≡◌, [], replicate}
use Rattle.number_groups.proofs.empty_groups.Given as goal

abbrev pub invariant-loop : goal.invariant-loop
invariant-loop g l = l.groups.items ≡ replicate l.counter []
