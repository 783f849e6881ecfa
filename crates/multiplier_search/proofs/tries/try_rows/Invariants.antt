use Rattle.std.proofs.Common.{◌≡◌, ℕ, ◌+◌, ◌<◌, true}
use Rattle.multiplier_search.specs.Found.{one_of}
use Rattle.multiplier_search.specs.Tries.{is_kept, IsUncovered}
use Rattle.multiplier_search.proofs.tries.try_rows.Given as goal

abbrev pub invariant-loop-i : goal.invariant-loop-i
invariant-loop-i l = (k : ℕ) → k < l.i → is_kept l.kept k ≡ true → IsUncovered l.target l.rows (one_of (k + 1)) l.bounds
