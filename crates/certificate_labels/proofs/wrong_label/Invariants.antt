use Rattle.csv_rows.specs.Rows.{IsAtRow, records_in, rows_left}
use Rattle.certificate_labels.specs.Comparing.{IsComparedSoFar}
use Rattle.certificate_labels.specs.Labels.{due_labels}
use Rattle.certificate_labels.proofs.wrong_label.Given as goal

abbrev pub invariant-loop-place : goal.invariant-loop-place
invariant-loop-place l = IsAtRow l.reader × IsComparedSoFar (due_labels l.inputs) (records_in l.bytes) (rows_left l.reader) l.place
