use Rattle.std.proofs.Common.{ℕ, ◌<◌, ◌≤◌}
use Rattle.multiplier_search.specs.Found.{pair_of}
use Rattle.multiplier_search.specs.Tries.{IsUncovered}
use Rattle.multiplier_search.proofs.tries.try_shares.Given as goal

abbrev pub invariant-loop-tenths : goal.invariant-loop-tenths
invariant-loop-tenths l = (k : ℕ) → k < l.tenths → 1 ≤ k → IsUncovered l.target l.rows (pair_of l.first l.second k) l.bounds
