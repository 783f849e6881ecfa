use Rattle.std.proofs.Common.{ℕ, ◌<◌}
use Rattle.angle_bounds.specs.RightSides.{IsBarrierAt}
use Rattle.angle_bounds.proofs.barriers.is_barrier.Given as goal

abbrev pub invariant-loop-class : goal.invariant-loop-class
invariant-loop-class l = (i : ℕ) → i < l.class → IsBarrierAt l.state l.v l.left i
