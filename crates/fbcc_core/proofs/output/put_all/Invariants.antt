use Rattle.std.proofs.Common.{◌-◌, length}
use Rattle.fbcc_core.proofs.OutputPieces.{IsPutSoFar}
use Rattle.fbcc_core.proofs.output.put_all.Given as goal

abbrev pub invariant-pieces : goal.invariant-pieces
invariant-pieces g l = IsPutSoFar (g.S.Sink.tells l.fn.sink) (g.S.Sink.tells l.sink) (g.S.Sink.taken l.fn.sink) (g.S.Sink.taken l.sink) (g.S.Sink.faults l.fn.sink) (g.S.Sink.faults l.sink) l.text l.at

abbrev pub decreases-pieces : goal.decreases-pieces
decreases-pieces g l = length l.text - l.at
