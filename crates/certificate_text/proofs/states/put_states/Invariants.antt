use Rattle.std.proofs.Common.{◌≡◌, ℕ, List, ◌++◌, map, take, Bor}
use Rattle.std.specs.List.{enumerate_from, flat_map, zip}
use Rattle.certificate_text.specs.CertificateTexts.{lines_of_state, lines_text}
use Rattle.certificate_text.proofs.states.put_states.Given as goal

abbrev pub invariant-loop-k : goal.invariant-loop-k
invariant-loop-k l =
    l.table.text
    ≡ l.initial.table.text
    ++ lines_text (flat_map (lines_of_state l.places) (take l.k (zip (enumerate_from 0 (map (λ (id : Bor (List ℕ)). id.now) l.ids)) l.proofs)))
