use Rattle.std.proofs.Common.{sym, ◌∙◌, subst}
use Rattle.csv.specs.Records.{fields_of}
use Rattle.csv_rows.specs.Rows.{records_in, rows_left}
use Rattle.certificate_reader.specs.Drafts.{IsReadSoFar}
use Rattle.certificate_reader.proofs.Beginnings.{at_start, bad_row, read_on, all_rows, finish_found, reading_finishes, unfinished, first_bad_row_same}
use Rattle.certificate_reader.proofs.Runs.{some_same}
use Rattle.certificate_reader.proofs.reader.read_certificate.Goals as goal

pub loop-number-init : goal.loop-number-init
loop-number-init c =
    let rows = records_in c.args.bytes.now in (
      c.rows-reader.ensures.at_row,
      subst (λ left. IsReadSoFar rows left 1 c.new-draft.result) (sym c.rows-reader.ensures.all)
          (subst (IsReadSoFar rows rows 1) (sym c.new-draft.ensures) (at_start rows)),
    )

pub returns-then-not-found-clause-says : goal.returns-then-not-found-clause-says
returns-then-not-found-clause-says c =
    let rows = records_in c.args.bytes.now in
    let draft = c.loop-number.draft in
    let so_far = subst (λ left. IsReadSoFar rows left c.loop-number.number draft) (c.in-Ok.ensures.none c.if-not-found.true) c.loop-number.invariant.1 in
    finish_found rows draft c.in-Some.certificate (all_rows rows c.loop-number.number draft so_far) (sym c.finish.ensures ∙ c.in-Some.is)

pub returns-then-not-found-clause-reads : goal.returns-then-not-found-clause-reads
returns-then-not-found-clause-reads c = λ d are.
    let rows = records_in c.args.bytes.now in
    let draft = c.loop-number.draft in
    let so_far = subst (λ left. IsReadSoFar rows left c.loop-number.number draft) (c.in-Ok.ensures.none c.if-not-found.true) c.loop-number.invariant.1 in
    let is = all_rows rows c.loop-number.number draft so_far in
    some_same c.in-Some.certificate d (sym (sym c.finish.ensures ∙ c.in-Some.is) ∙ reading_finishes rows draft d is are)

pub returns-then-not-found-clause-bad : goal.returns-then-not-found-clause-bad
returns-then-not-found-clause-bad c = λ row b.
    let rows = records_in c.args.bytes.now in
    let draft = c.loop-number.draft in
    let so_far = subst (λ left. IsReadSoFar rows left c.loop-number.number draft) (c.in-Ok.ensures.none c.if-not-found.true) c.loop-number.invariant.1 in
    b.unread c.in-Some.certificate (finish_found rows draft c.in-Some.certificate (all_rows rows c.loop-number.number draft so_far) (sym c.finish.ensures ∙ c.in-Some.is))

pub returns-in_default-clause-says : goal.returns-in_default-clause-says
returns-in_default-clause-says c =
    let rows = records_in c.args.bytes.now in
    let draft = c.loop-number.draft in
    let so_far = subst (λ left. IsReadSoFar rows left c.loop-number.number draft) (c.in-Ok.ensures.none c.if-not-found.true) c.loop-number.invariant.1 in
    unfinished rows c.loop-number.number draft so_far (sym c.finish.ensures ∙ c.in_default.is)

pub returns-in_default-clause-reads : goal.returns-in_default-clause-reads
returns-in_default-clause-reads c =
    let rows = records_in c.args.bytes.now in
    let draft = c.loop-number.draft in
    let so_far = subst (λ left. IsReadSoFar rows left c.loop-number.number draft) (c.in-Ok.ensures.none c.if-not-found.true) c.loop-number.invariant.1 in
    (unfinished rows c.loop-number.number draft so_far (sym c.finish.ensures ∙ c.in_default.is)).unread

pub returns-in_default-clause-bad : goal.returns-in_default-clause-bad
returns-in_default-clause-bad c = λ row b.
    let rows = records_in c.args.bytes.now in
    let draft = c.loop-number.draft in
    let so_far = subst (λ left. IsReadSoFar rows left c.loop-number.number draft) (c.in-Ok.ensures.none c.if-not-found.true) c.loop-number.invariant.1 in
    first_bad_row_same rows c.loop-number.number row (unfinished rows c.loop-number.number draft so_far (sym c.finish.ensures ∙ c.in_default.is)) b

pub returns-in-Ok-None-clause-says : goal.returns-in-Ok-None-clause-says
returns-in-Ok-None-clause-says c =
    let rows = records_in c.args.bytes.now in
    let draft = c.loop-number.draft in
    let so_far = subst (λ left. IsReadSoFar rows left c.loop-number.number draft) (c.in-Ok.ensures.some c.if-not-found.false) c.loop-number.invariant.1 in
    bad_row rows (rows_left c.next_row.new.reader) (fields_of c.next_row.new.row) c.loop-number.number draft so_far (rw c.in-Ok-None.field-0-is at c.in-Ok-None.ensures)

pub returns-in-Ok-None-clause-reads : goal.returns-in-Ok-None-clause-reads
returns-in-Ok-None-clause-reads c =
    let rows = records_in c.args.bytes.now in
    let draft = c.loop-number.draft in
    let so_far = subst (λ left. IsReadSoFar rows left c.loop-number.number draft) (c.in-Ok.ensures.some c.if-not-found.false) c.loop-number.invariant.1 in
    (bad_row rows (rows_left c.next_row.new.reader) (fields_of c.next_row.new.row) c.loop-number.number draft so_far (rw c.in-Ok-None.field-0-is at c.in-Ok-None.ensures)).unread

pub returns-in-Ok-None-clause-bad : goal.returns-in-Ok-None-clause-bad
returns-in-Ok-None-clause-bad c = λ row b.
    let rows = records_in c.args.bytes.now in
    let draft = c.loop-number.draft in
    let so_far = subst (λ left. IsReadSoFar rows left c.loop-number.number draft) (c.in-Ok.ensures.some c.if-not-found.false) c.loop-number.invariant.1 in
    first_bad_row_same rows c.loop-number.number row
    (bad_row rows (rows_left c.next_row.new.reader) (fields_of c.next_row.new.row) c.loop-number.number draft so_far (rw c.in-Ok-None.field-0-is at c.in-Ok-None.ensures)) b

pub loop-number-preserved : goal.loop-number-preserved
loop-number-preserved c =
    let rows = records_in c.args.bytes.now in
    let draft = c.loop-number.draft in
    let so_far = subst (λ left. IsReadSoFar rows left c.loop-number.number draft) (c.in-Ok.ensures.some c.if-not-found.false) c.loop-number.invariant.1 in (
      c.in-Ok.ensures.at_row c.if-not-found.false,
      read_on rows (rows_left c.next_row.new.reader) (fields_of c.next_row.new.row) c.loop-number.number draft c.in-Ok-Some.next so_far (rw c.in-Ok-Some.field-0-is at c.in-Ok-Some.ensures),
    )
