use Rattle.std.proofs.Common.{sym, subst}
use Rattle.certificate_labels.specs.Labels.{due_labels, AreLabelled}
use Rattle.certificate_files.proofs.DueLengths.{due_lengths, rows_due, all_good}
use Rattle.certificate_files.proofs.reads_back.Goals as goal

pub returns-clause-reading : goal.returns-clause-reading
returns-clause-reading c =
    let inputs = c.args.inputs.now in
    let certificate = c.args.certificate.now in
    let whole = c.requires.whole in
    let valid = c.requires.valid in
    c.texts_read_back.ensures inputs certificate (due_lengths inputs certificate whole valid c.ranges-2.ensures)
    (all_good inputs certificate whole valid c.ids_are_texts.ensures c.ranges-2.ensures)

pub returns-clause-verdict : goal.returns-clause-verdict
returns-clause-verdict c =
    let inputs = c.args.inputs.now in
    let certificate = c.args.certificate.now in
    let whole = c.requires.whole in
    let valid = c.requires.valid in
    let yes = c.yes_exactly_where_valid.ensures inputs certificate in (
      yes.1 valid,
      subst (AreLabelled (due_labels inputs)) (sym (c.written_records_are_lines.ensures inputs certificate))
          (c.written_labels_are_due.ensures inputs certificate
          (due_lengths inputs certificate whole valid c.ranges-2.ensures) (rows_due inputs certificate whole valid)),
    )
