use Rattle.std.proofs.Common.{◌≡◌, ℕ, List, ◌++◌, map, take, Bor}
use Rattle.domain_report.proofs.fields.put_texts.Given as goal

abbrev pub invariant-loop-text : goal.invariant-loop-text
invariant-loop-text l = l.fields ≡ l.initial.fields ++ map (λ (t : Bor (List ℕ)). t.now) (take l.text-index l.texts)
