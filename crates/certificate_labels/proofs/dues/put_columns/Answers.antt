use Rattle.std.proofs.Common.{◌∷◌, [], ◌++◌, get_or, map, take, sym, ap, ◌∙◌, append_assoc}
use Rattle.std.proofs.lemmas.List.{take_all, take_more}
use Rattle.certificate_text.proofs.Appending.{mapped_more}
use Rattle.certificate_labels.specs.Kinds.{label_of, labels_of_columns}
use Rattle.certificate_labels.specs.Labels.{column_label}
use Rattle.certificate_labels.specs.declared.record.Due.TheVariants as due
use Rattle.certificate_labels.proofs.Listing.{pushed}
use Rattle.certificate_labels.proofs.dues.put_columns.Goals as goal

pub loop-place-preserved : goal.loop-place-preserved
loop-place-preserved c =
    let places = c.args.places.now in
    let k = c.loop-place.place-index in
    let place = get_or places k (0, 0) in
    let start = map label_of c.args.dues.now.items in
    let label = column_label c.args.state in
    pushed label_of c.loop-place.dues.items c.push.new.self.items (due.Column c.args.state place.0 place.1) c.in_ok-push.ensures.items
    ∙ ap (λ ls. ls ++ label place ∷ []) c.loop-place.invariant
    ∙ append_assoc start (map label (take k places)) (label place ∷ [])
    ∙ ap (λ ls. start ++ ls) (sym (mapped_more label places k place (take_more places k (0, 0) c.loop-place-test.true)))

pub returns : goal.returns
returns c =
    c.loop-place.invariant
    ∙ ap (λ ps. map label_of c.args.dues.now.items ++ labels_of_columns c.args.state ps) (take_all c.loop-place.place-index c.args.places.now c.loop-place-test.false)
