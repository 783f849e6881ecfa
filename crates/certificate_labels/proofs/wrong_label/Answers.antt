use Rattle.std.proofs.Common.{◌+◌, get_or, map, refl, sym, subst, ap, ◌∙◌}
use Rattle.csv.specs.Records.{fields_of}
use Rattle.csv_rows.specs.Rows.{records_in, rows_left}
use Rattle.certificate_labels.specs.Comparing.{IsComparedSoFar}
use Rattle.certificate_labels.specs.Kinds.{label_of}
use Rattle.certificate_labels.specs.Labels.{due_labels}
use Rattle.certificate_labels.specs.declared.record.Due.TheVariants as due
use Rattle.certificate_labels.proofs.Comparisons.{at_start, goes_on, first_found, none_left, none_due, not_mislabelled}
use Rattle.certificate_labels.proofs.Listing.{due_at, no_more_due}
use Rattle.certificate_labels.proofs.wrong_label.Goals as goal

pub loop-place-init : goal.loop-place-init
loop-place-init c =
    let due = due_labels c.args.inputs.now in
    let records = records_in c.args.bytes.now in
    (c.rows-reader.ensures.at_row, subst (λ left. IsComparedSoFar due records left 0) (sym c.rows-reader.ensures.all) (at_start due records))

pub returns-then-not-found : goal.returns-then-not-found
returns-then-not-found c =
    none_left (due_labels c.args.inputs.now) (records_in c.args.bytes.now) (rows_left c.loop-place.reader) c.loop-place.place c.loop-place.invariant.1 (c.in_ok-found.ensures.none c.if-not-found.true)

pub returns-then-is_wrong : goal.returns-then-is_wrong
returns-then-is_wrong c =
    let labels = due_labels c.args.inputs.now in
    let dues = c.deref-due-items.result.now in
    let place = c.loop-place.place in
    first_found labels (records_in c.args.bytes.now) (rows_left c.loop-place.reader) (rows_left c.next_row.new.reader) place (place + 1) (label_of (get_or dues place due.Version)) (fields_of c.next_row.new.row)
    c.loop-place.invariant.1
    (c.in_ok-found.ensures.some c.if-not-found.false)
    (due_at dues labels place due.Version (ap (map label_of) c.deref-due-items.ensures.value ∙ c.in_ok-dues.ensures) c.loop-place-test.true)
    (c.in_ok-is_wrong.ensures.0 c.if-is_wrong.true)
    refl

pub loop-place-preserved : goal.loop-place-preserved
loop-place-preserved c =
    let labels = due_labels c.args.inputs.now in
    let dues = c.deref-due-items.result.now in
    let place = c.loop-place.place in
    let label = label_of (get_or dues place due.Version) in
    let fields = fields_of c.next_row.new.row in (
      c.in_ok-found.ensures.at_row c.if-not-found.false,
      goes_on labels (records_in c.args.bytes.now) (rows_left c.loop-place.reader) (rows_left c.next_row.new.reader) place label fields
          c.loop-place.invariant.1
          (c.in_ok-found.ensures.some c.if-not-found.false)
          (due_at dues labels place due.Version (ap (map label_of) c.deref-due-items.ensures.value ∙ c.in_ok-dues.ensures) c.loop-place-test.true)
          (not_mislabelled c.in_ok-is_wrong.is_wrong label fields c.in_ok-is_wrong.ensures c.if-is_wrong.false),
    )

pub returns : goal.returns
returns c =
    let labels = due_labels c.args.inputs.now in
    none_due labels (records_in c.args.bytes.now) (rows_left c.loop-place.reader) c.loop-place.place c.loop-place.invariant.1
    (no_more_due c.deref-due-items.result.now labels c.loop-place.place (ap (map label_of) c.deref-due-items.ensures.value ∙ c.in_ok-dues.ensures) c.loop-place-test.false)
