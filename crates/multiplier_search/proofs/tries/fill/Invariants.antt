use Rattle.std.proofs.Common.{◌≡◌, ℕ, ◌^◌, ◌<◌}
use Rattle.whole_laws.specs.Sums.{IsWithin, at}
use Rattle.multiplier_search.specs.Corners.{corner}
use Rattle.multiplier_search.proofs.tries.fill.Given as goal

abbrev pub invariant-loop-z : goal.invariant-loop-z
invariant-loop-z l = ((k : ℕ) → k < l.z → at l.corners k ≡ corner l.target l.rows l.mults k) × ((k : ℕ) → k < l.z → IsWithin (10 ^ 24) (at l.corners k))
