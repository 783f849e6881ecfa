use Rattle.std.proofs.Common.{◌≡◌, ℕ, ◌<◌, ◌++◌, [], length, take, get_or}
use Rattle.number_groups.specs.Groups.{beside}
use Rattle.number_groups.proofs.dealt.Given as goal

abbrev pub invariant-loop-number : goal.invariant-loop-number
invariant-loop-number g l = record {
  as_many : length l.queues ≡ length l.initial.queues;
  long : length l.items ≡ l.number-index;
  each : (k : ℕ) → k < length l.initial.queues
      → get_or l.initial.queues k [] ≡ beside k (take l.number-index l.numbers) l.items ++ get_or l.queues k [];
}
