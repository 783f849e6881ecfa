use Rattle.std.proofs.Common.{take}
use Rattle.state_proofs.specs.Enclosed.{AreEnclosed}
use Rattle.state_proofs.specs.StateProofs.{all_blocks}
use Rattle.state_proofs.proofs.columns.enclosed_keys.Given as goal

abbrev pub invariant-loop-column : goal.invariant-loop-column
invariant-loop-column l = AreEnclosed l.state (all_blocks (take l.column-index l.columns)) l.enclosed
