use Rattle.std.proofs.Common.{◌≡◌, true}
use Rattle.angle_bounds.specs.RightSides.{IsMade, IsAtMostOne, remainder_of}
use Rattle.angle_bounds.proofs.remainders.remainders.Given as goal

abbrev pub invariant-loop-class : goal.invariant-loop-class
invariant-loop-class l = record {
  made : IsMade l.state (remainder_of l.state l.p l.w) l.numbers.items l.class;
  settled : l.is_settled ≡ true → IsAtMostOne l.state l.numbers.items l.class;
}
