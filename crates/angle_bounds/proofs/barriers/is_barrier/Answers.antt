use Rattle.std.proofs.Common.{arith}
use Rattle.angle_bounds.proofs.barriers.is_barrier.Goals as goal

pub returns : goal.returns
returns c = λ t i h. c.loop-class.invariant i (let all = c.loop-class-test.false in let e = c.classes-class-end.ensures in omega arith)
