use Rattle.std.proofs.Common.{map}
use Rattle.std.proofs.lemmas.Result.{on_ok_weaker}
use Rattle.certificate_labels.specs.Kinds.{label_of, labels_of_columns}
use Rattle.certificate_labels.specs.declared.record.Due.TheVariants as due
use Rattle.certificate_labels.proofs.Listing.{pushed, three_and_more}
use Rattle.certificate_labels.proofs.dues.put_state.Goals as goal

pub returns : goal.returns
returns c =
    let k = c.args.number in
    let dues = c.args.dues.now.items in
    let one = c.push.new.self.items in
    let two = c.push-2.new.self.items in
    let three = c.push-3.new.self.items in
    let state = due.State k c.args.id in
    let barrier = due.Barrier k in
    let reference = due.Column k 0 0 in
    on_ok_weaker c.put_columns.result
    (three_and_more (map label_of dues) (map label_of one) (map label_of two) (map label_of three) (map label_of c.put_columns.new.dues.items)
    (label_of state) (label_of barrier) (label_of reference) (labels_of_columns k c.args.places.now)
    (pushed label_of dues one state c.in_ok-push.ensures.items)
    (pushed label_of one two barrier c.in_ok-push-2.ensures.items)
    (pushed label_of two three reference c.in_ok-push-3.ensures.items))
    c.put_columns.ensures
