use Rattle.std.proofs.Common.{◌≡◌, ℕ, ◌<◌, true}
use Rattle.fb_types.specs.Domain.{Meets}
use Rattle.multiplier_search.specs.Tries.{is_kept}
use Rattle.redundancy.specs.Thinned.{row_of}
use Rattle.redundancy.proofs.witness.meets_kept.Given as goal

abbrev pub invariant-loop-k : goal.invariant-loop-k
invariant-loop-k l = (k : ℕ) → k < l.k → is_kept l.kept k ≡ true → Meets (row_of l.rows k) l.x
