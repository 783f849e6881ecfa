use Rattle.std.proofs.Common.{◌≡◌, take}
use Rattle.angle_bounds.proofs.tests.items_of.Given as goal

abbrev pub invariant-loop-number : goal.invariant-loop-number
invariant-loop-number l = l.items ≡ take l.number-index l.numbers
