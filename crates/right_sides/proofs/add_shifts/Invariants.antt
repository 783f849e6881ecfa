use Rattle.std.proofs.Common.{◌+◌, ◌*◌, ◌^◌, pos, ◌*ℤ◌, All}
use Rattle.whole_laws.specs.Sums.{IsWithin}
use Rattle.right_sides.specs.Raised.{IsRaised}
use Rattle.right_sides.proofs.Classes.{shifts_of_first}
use Rattle.right_sides.proofs.add_shifts.Given as goal

abbrev pub invariant-loop-number : goal.invariant-loop-number
invariant-loop-number l = record {
  raised : IsRaised l.fn.sums l.sums (λ c. pos (10 ^ 4) *ℤ shifts_of_first l.state l.grid.branches l.number c);
  small : All (λ z. IsWithin (4096 * (10 ^ 13 * 2 ^ 64) + l.number * (10 ^ 15 * 2 ^ 63)) z) l.sums;
}
