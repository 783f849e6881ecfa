use Rattle.csv.specs.Records.{fields_of}
use Rattle.csv_rows.specs.Rows.{rows_left}
use Rattle.run_settings.specs.Reductions.{reduction_in}
use Rattle.run_settings.proofs.RecordLaws.{taken_none, taken_more, taken_fault}
use Rattle.run_settings.proofs.table.read_records.Goals as goal

pub loop-number-init : goal.loop-number-init
loop-number-init c = (
  c.requires,
  taken_none c.args.elements.now (rows_left c.args.reader.now) c.new-named.result c.new-reductions.result c.new-named.ensures.direct c.new-named.ensures.opposite c.new-reductions.ensures.empty,
)

pub returns-in-Err : goal.returns-in-Err
returns-in-Err c =
    let row = fields_of c.next_row.new.row in
    taken_fault c.args.elements.now (rows_left c.args.reader.now) (rows_left c.loop-number.reader) (rows_left c.next_row.new.reader) row c.loop-number.named c.loop-number.reductions
    (reduction_in c.args.elements.now row) c.loop-number.number c.in-Err.e c.loop-number.invariant.1 (c.in_ok-next_row.ensures.some c.if-not-branch.false) c.in-Err.ensures.judged

pub loop-number-preserved : goal.loop-number-preserved
loop-number-preserved c =
    let found = c.if-not-branch.false in (
      c.in_ok-next_row.ensures.at_row found,
      taken_more c.args.elements.now (rows_left c.args.reader.now) (rows_left c.loop-number.reader) (rows_left c.next_row.new.reader) (fields_of c.next_row.new.row)
          c.loop-number.named c.read_record.new.named c.loop-number.reductions c.add.new.self c.in-Ok.reduction c.loop-number.number
          c.loop-number.invariant.1 (c.in_ok-next_row.ensures.some found) c.in-Ok.ensures.judged.0 c.in-Ok.ensures.judged.1 c.in-Ok.ensures.named c.in_ok-add-in-Ok.ensures.pushed,
    )
