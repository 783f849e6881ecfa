use Rattle.std.proofs.Common.{◌≡◌, [], ◌∷◌, map, take}
use Rattle.std.specs.Prelude.{codes}
use Rattle.std.specs.List.{enumerate_from, flat_map}
use Rattle.certificate_text.specs.CertificateTexts.{block_places, state_ids}
use Rattle.certificate_labels.specs.Kinds.{label_of}
use Rattle.certificate_labels.specs.Labels.{labels_of_state}
use Rattle.certificate_labels.proofs.dues.due_records.Given as goal

abbrev pub invariant-loop-number : goal.invariant-loop-number
invariant-loop-number l =
    map label_of l.dues.items
    ≡ (codes "version" ∷ [] ∷ []) ∷ flat_map (labels_of_state (block_places l.inputs.keys.columns)) (take l.number (enumerate_from 0 (state_ids l.inputs)))
