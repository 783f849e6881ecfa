use Rattle.std.proofs.Common.{◌≡◌, ℕ, List, [], ◌∷◌, map, take, Some, Bor}
use Rattle.domain_report.specs.DomainTexts.{contingency_id}
use Rattle.certificate_text.proofs.states.state_ids.Given as goal

abbrev pub invariant-loop-outage : goal.invariant-loop-outage
invariant-loop-outage l =
    map (λ (id : Bor (List ℕ)). id.now) l.ids.items ≡ [] ∷ map (λ (k : ℕ). contingency_id l.contingencies (Some k)) (take l.outage-index l.outage-items)
