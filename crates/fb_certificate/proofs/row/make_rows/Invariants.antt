use Rattle.std.proofs.Common.{take}
use Rattle.std.specs.Prelude.{IfSome}
use Rattle.std.specs.List.{AllZip}
use Rattle.fb_certificate.specs.Capacity.{IsRight}
use Rattle.fb_certificate.specs.CracRows.{crac_rows}
use Rattle.fb_certificate.specs.RowsMade.{AreFlowsIn}
use Rattle.fb_certificate.specs.Valid.{IsRowOf}
use Rattle.fb_certificate.proofs.row.make_rows.Given as goal

abbrev pub invariant-loop-row : goal.invariant-loop-row
invariant-loop-row l = record {
  numbers : AllZip (IsRowOf l.inputs l.states) (take l.row-index (crac_rows l.inputs.crac.elements)) l.made;
  right : AllZip (IsRight l.inputs) (take l.row-index (crac_rows l.inputs.crac.elements)) l.made;
  last : IfSome l.last (AreFlowsIn l.inputs l.states);
}
