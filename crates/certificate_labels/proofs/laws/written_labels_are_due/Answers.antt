use Rattle.certificate_labels.proofs.Written.{labels_are_due}
use Rattle.certificate_labels.proofs.laws.written_labels_are_due.Goals as goal

pub returns : goal.returns
returns c = labels_are_due
