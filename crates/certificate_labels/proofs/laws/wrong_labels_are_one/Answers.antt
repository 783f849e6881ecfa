use Rattle.certificate_labels.proofs.Comparisons.{one_answer}
use Rattle.certificate_labels.proofs.laws.wrong_labels_are_one.Goals as goal

pub returns : goal.returns
returns c = one_answer
