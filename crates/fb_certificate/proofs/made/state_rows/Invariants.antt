use Rattle.std.proofs.Common.{take}
use Rattle.std.specs.Prelude.{IfSome}
use Rattle.std.specs.List.{AllZip}
use Rattle.fb_certificate.specs.RowsMade.{AreFlowsBy, IsMadeBy}
use Rattle.fb_certificate.proofs.made.state_rows.Given as goal

abbrev pub invariant-loop-row : goal.invariant-loop-row
invariant-loop-row l = record {
  rows : AllZip (IsMadeBy l.inputs l.proof) (take l.row-index l.rows) l.made;
  last : IfSome l.last (AreFlowsBy l.inputs l.proof);
}
