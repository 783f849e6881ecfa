use Rattle.csv_rows.specs.Rows.{IsAtRow, rows_left}
use Rattle.run_settings.specs.Records.{AreTaken}
use Rattle.run_settings.proofs.table.read_records.Given as goal

abbrev pub invariant-loop-number : goal.invariant-loop-number
invariant-loop-number l = IsAtRow l.reader × AreTaken l.elements (rows_left l.initial.reader) (rows_left l.reader) l.named l.reductions l.number
