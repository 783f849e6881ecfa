use Rattle.std.proofs.Common.{◌≢◌}
use Rattle.csv.specs.Records.{fields_of}
use Rattle.csv.specs.Writing.{writer_setup}
use Rattle.csv.specs.declared.writer.QuoteStyle.TheVariants as style
use Rattle.csv_rows.specs.TableStates.{written_text}
use Rattle.csv_rows.proofs.AnyLengths.{wrote_record}
use Rattle.csv_rows.proofs.table.write_row.Goals as goal

pub returns-clause-text : goal.returns-clause-text
returns-clause-text c =
    let at = c.requires in
    let plain : (writer_setup c.args.writer.now).style ≢ style.NonNumeric = rw at.setup (λ e. cc e) in
    wrote_record _ c.write_byte_record.result (writer_setup c.args.writer.now) (written_text c.args.writer.now) (written_text c.write_byte_record.new.self) (fields_of c.args.row.now) at.setup
    (λ h. h at.fields at.wrote plain) c.write_byte_record.ensures.bytes
