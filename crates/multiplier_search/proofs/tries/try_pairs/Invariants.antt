use Rattle.std.proofs.Common.{◌≡◌, ℕ, ◌+◌, ◌-◌, ◌<◌, ◌≤◌, true}
use Rattle.fb_types.specs.Domain.{IsRow}
use Rattle.multiplier_search.specs.Found.{pair_of}
use Rattle.multiplier_search.specs.Tries.{is_kept, IsUncovered}
use Rattle.multiplier_search.proofs.tries.try_pairs.Given as goal

abbrev pub invariant-loop-i : goal.invariant-loop-i
invariant-loop-i l = (i : ℕ) → i < l.i → is_kept l.kept i ≡ true → (second k : ℕ) → IsRow l.rows second → is_kept l.kept (second - 1) ≡ true → i + 1 < second → 1 ≤ k → k < 10 → IsUncovered l.target l.rows (pair_of (i + 1) second k) l.bounds
