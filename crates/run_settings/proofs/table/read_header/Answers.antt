use Rattle.std.proofs.Common.{sym, ◌∙◌}
use Rattle.csv.specs.Records.{fields_of}
use Rattle.csv_rows.specs.Rows.{rows_left}
use Rattle.run_settings.proofs.RecordLaws.{no_header, wrong_header}
use Rattle.run_settings.proofs.table.read_header.Goals as goal

pub returns-then-branch-clause-none : goal.returns-then-branch-clause-none
returns-then-branch-clause-none c = λ other. wrong_header (rows_left c.args.reader.now) (rows_left c.next_row.new.reader) (fields_of c.next_row.new.row) (c.in_ok-next_row.ensures.some c.if-branch.true) (sym c.is_header.ensures ∙ other)

pub returns-else-branch-clause-none : goal.returns-else-branch-clause-none
returns-else-branch-clause-none c = λ _. no_header (rows_left c.args.reader.now) (c.in_ok-next_row.ensures.none c.if-branch.false)
