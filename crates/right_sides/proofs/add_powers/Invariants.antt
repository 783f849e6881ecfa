use Rattle.std.proofs.Common.{◌*◌, ◌^◌, pos, ◌*ℤ◌, All}
use Rattle.whole_laws.specs.Sums.{IsWithin}
use Rattle.security.specs.Balances.{injection_at}
use Rattle.right_sides.specs.Raised.{IsRaised}
use Rattle.right_sides.proofs.Classes.{of_first}
use Rattle.right_sides.proofs.add_powers.Given as goal

abbrev pub invariant-loop-number : goal.invariant-loop-number
invariant-loop-number l = record {
  raised : IsRaised l.fn.sums l.sums (λ c. pos (10 ^ 13) *ℤ of_first l.state (injection_at l.grid) l.number c);
  small : All (λ z. IsWithin (l.number * (10 ^ 13 * 2 ^ 64)) z) l.sums;
}
