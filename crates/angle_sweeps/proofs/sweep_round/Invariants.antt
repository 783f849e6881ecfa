use Rattle.angle_sweeps.proofs.Round.{SoFar}
use Rattle.angle_sweeps.proofs.sweep_round.Given as goal

abbrev pub invariant-loop-class : goal.invariant-loop-class
invariant-loop-class l = SoFar l.state l.p l.fn.w l.w l.rose l.class
