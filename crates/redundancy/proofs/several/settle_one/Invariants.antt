use Rattle.std.proofs.Common.{◌≡◌, ℕ, ◌<◌, true}
use Rattle.multiplier_search.specs.Tries.{is_kept}
use Rattle.redundancy.specs.Thinned.{IsUncited}
use Rattle.redundancy.specs.Fates.{IsState, IsUnpairedRow}
use Rattle.redundancy.proofs.several.settle_one.Given as goal

abbrev pub invariant-loop-k : goal.invariant-loop-k
invariant-loop-k l =
    (l.kept ≡ l.initial.kept)
    × IsState l.rows l.bounds l.fates l.initial.kept
    × ((k : ℕ) → k < l.k → is_kept l.initial.kept k ≡ true → IsUncited l.fates k → IsUnpairedRow l.rows l.bounds l.initial.kept k)
