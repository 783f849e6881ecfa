use Rattle.std.proofs.Common.{◌≡◌, ℕ, ◌<◌, ◌≤◌, true}
use Rattle.multiplier_search.specs.Tries.{is_kept}
use Rattle.redundancy.specs.Kept.{IsFree}
use Rattle.redundancy.proofs.single.from_kept.Given as goal

abbrev pub invariant-loop-j : goal.invariant-loop-j
invariant-loop-j l = (m : ℕ) → m < l.j → l.low ≤ m → is_kept l.kept m ≡ true → IsFree l.rows l.bounds l.k m
