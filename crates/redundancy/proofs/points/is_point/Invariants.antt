use Rattle.std.proofs.Common.{◌≡◌, ℕ, ◌*◌, ◌^◌, ◌<◌}
use Rattle.std.specs.Prelude.{◌≤ℤ◌, slice_get}
use Rattle.whole_laws.specs.Sums.{sum_below, at, IsWithin}
use Rattle.fb_types.specs.Domain.{low_of, high_of}
use Rattle.redundancy.proofs.points.is_point.Given as goal

abbrev pub invariant-loop-z : goal.invariant-loop-z
invariant-loop-z l =
    (l.sum ≡ sum_below l.z (λ z. at l.x z))
    × IsWithin (10 ^ 11 * l.z) l.sum
    × ((z : ℕ) → z < l.z → (low_of (slice_get l.bounds z) ≤ℤ at l.x z) × (at l.x z ≤ℤ high_of (slice_get l.bounds z)))
