use Rattle.std.proofs.Common.{List, subst}
use Rattle.csv_rows.specs.Rows.{rows_left}
use Rattle.fb_types.specs.declared.crac.Element.{Element}
use Rattle.run_settings.specs.Records.{HasNoHeader, ReadsRecords}
use Rattle.run_settings.proofs.RecordLaws.{header_fault, document_read}
use Rattle.run_settings.proofs.table.read.Goals as goal

pub returns-then-not-branch : goal.returns-then-not-branch
returns-then-not-branch c =
    header_fault c.args.crac.now.elements c.args.bytes.now (subst HasNoHeader c.rows-reader.ensures.all (c.in_ok-read_header.ensures.none c.if-not-branch.true))

pub returns : goal.returns
returns c =
    let left = rows_left c.read_header.new.reader in
    document_read c.args.crac.now.elements c.args.bytes.now (rows_left c.rows-reader.result) left c.read_records.result c.rows-reader.ensures.all
    (c.in_ok-read_header.ensures.header c.if-not-branch.false)
    (subst (λ (elements : List Element). ReadsRecords elements left c.read_records.result) c.in_ok-elements.ensures c.read_records.ensures)
