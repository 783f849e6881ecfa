use Rattle.std.proofs.Common.{◌≡◌, ℕ, length}
use Rattle.std.specs.Prelude.{Some, slice_get}
use Rattle.fb_types.specs.declared.rows.Fate.{Fate}
use Rattle.redundancy.specs.Fates.{IsFate}
use Rattle.redundancy.proofs.single.fates.Given as goal

abbrev pub invariant-loop-k : goal.invariant-loop-k
invariant-loop-k l = (length l.all.items ≡ l.k) × ((m : ℕ) (fate : Fate) → slice_get l.all.items m ≡ Some fate → IsFate l.rows l.bounds l.kept m fate)
