use Rattle.std.proofs.Common.{◌≡◌, ℕ, ◌+◌, ◌<◌, ◌≤◌, true}
use Rattle.multiplier_search.specs.Found.{pair_of}
use Rattle.multiplier_search.specs.Tries.{is_kept, IsUncovered}
use Rattle.multiplier_search.proofs.tries.try_seconds.Given as goal

abbrev pub invariant-loop-i : goal.invariant-loop-i
invariant-loop-i l = (j : ℕ) → j < l.i → l.first ≤ j → is_kept l.kept j ≡ true → (k : ℕ) → 1 ≤ k → k < 10 → IsUncovered l.target l.rows (pair_of l.first (j + 1) k) l.bounds
