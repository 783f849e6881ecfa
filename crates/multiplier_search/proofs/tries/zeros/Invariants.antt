use Rattle.std.proofs.Common.{◌≡◌, vec_len}
use Rattle.multiplier_search.proofs.tries.zeros.Given as goal

abbrev pub invariant-loop : goal.invariant-loop
invariant-loop l = vec_len l.v ≡ l.counter
