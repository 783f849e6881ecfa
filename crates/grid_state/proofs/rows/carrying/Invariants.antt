use Rattle.std.proofs.Common.{◌≡◌}
use Rattle.grid_state.specs.Unions.{carries_before}
use Rattle.grid_state.proofs.rows.carrying.Given as goal

abbrev pub invariant-loop-number : goal.invariant-loop-number
invariant-loop-number l = l.made.items ≡ carries_before l.out l.class_of l.live l.branches l.number
