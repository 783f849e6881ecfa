use Rattle.std.proofs.Common.{◌≡◌, ◌++◌, map, take}
use Rattle.certificate_labels.specs.Kinds.{label_of, labels_of_columns}
use Rattle.certificate_labels.proofs.dues.put_columns.Given as goal

abbrev pub invariant-loop-place : goal.invariant-loop-place
invariant-loop-place l = map label_of l.dues.items ≡ map label_of l.initial.dues.items ++ labels_of_columns l.state (take l.place-index l.places)
