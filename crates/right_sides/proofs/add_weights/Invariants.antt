use Rattle.std.proofs.Common.{◌^◌, pos, ◌*ℤ◌, take}
use Rattle.security.specs.Balances.{of_class}
use Rattle.right_sides.specs.Raised.{IsRaised, weights_at}
use Rattle.right_sides.proofs.add_weights.Given as goal

abbrev pub invariant-loop-weight : goal.invariant-loop-weight
invariant-loop-weight l = IsRaised l.fn.sums l.sums (λ c. pos (10 ^ 13) *ℤ of_class l.state (weights_at (take l.weight-index l.weights)) c)
