use Rattle.csv_rows.specs.Rows.{IsAtRow, records_in, rows_left}
use Rattle.certificate_reader.specs.Drafts.{IsReadSoFar}
use Rattle.certificate_reader.proofs.reader.read_certificate.Given as goal

abbrev pub invariant-loop-number : goal.invariant-loop-number
invariant-loop-number l = IsAtRow l.reader × IsReadSoFar (records_in l.bytes) (rows_left l.reader) l.number l.draft
