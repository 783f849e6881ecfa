use Rattle.std.proofs.Common.{All, take, pos, ◌≤ℤ◌}
use Rattle.angle_bounds.proofs.tests.are_nonnegative.Given as goal

abbrev pub invariant-loop-z : goal.invariant-loop-z
invariant-loop-z l = All (λ z. pos 0 ≤ℤ z) (take l.z-index l.p)
