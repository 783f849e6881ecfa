use Rattle.std.proofs.Common.{◌≡◌, ◌++◌, map, take}
use Rattle.std.specs.List.{enumerate_from, flat_map}
use Rattle.fb_certificate.specs.CracRows.{rows_of_element}
use Rattle.certificate_labels.specs.Kinds.{label_of, labels_of_rows}
use Rattle.certificate_labels.proofs.dues.put_rows.Given as goal

abbrev pub invariant-loop-element : goal.invariant-loop-element
invariant-loop-element l =
    map label_of l.dues.items
    ≡ map label_of l.initial.dues.items ++ labels_of_rows 1 (flat_map rows_of_element (take l.element-index (enumerate_from 0 l.elements)))
