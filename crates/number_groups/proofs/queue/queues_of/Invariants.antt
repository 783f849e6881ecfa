use Rattle.std.proofs.Common.{◌≡◌}
use Rattle.number_groups.proofs.queue.queues_of.Given as goal

abbrev pub invariant-loop-group : goal.invariant-loop-group
invariant-loop-group g l = l.yielded ≡ l.queues.items
