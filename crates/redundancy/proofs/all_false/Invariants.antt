use Rattle.std.proofs.Common.{◌≡◌, vec_len}
use Rattle.redundancy.proofs.all_false.Given as goal

abbrev pub invariant-loop : goal.invariant-loop
invariant-loop l = vec_len l.v ≡ l.counter
