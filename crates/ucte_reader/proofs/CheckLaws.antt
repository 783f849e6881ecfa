-- Checks in order, part by part.
use Rattle.std.proofs.Common.{◌≡◌, Option, None, Result, Ok, Err, ap, ◌∙◌}
use Rattle.std.specs.Option.{option_or}
use Rattle.first_fault.proofs.CheckLaws.{option_or-none}
use Rattle.ucte_reader.specs.Steps.{Judges, Makes}
use Rattle.ucte_reader.specs.declared.kind.GridKind.{GridKind}
use Rattle.ucte_reader.specs.declared.kind.LineError.{LineError}
use Rattle.ucte_reader.specs.declared.kind.LineError.TheVariants.{Fault, Memory}

-- a fault of the first part is one of the whole
pub judged_front : {X : Type 0} (Y : Type 0) (e : LineError) (whole front back : Option GridKind) (P : X → Type 0) → whole ≡ option_or front back
    → (let r : Result X LineError = Err e in Makes r front P) → (let r : Result Y LineError = Err e in Judges r whole)
judged_front Y (Memory e) whole front back P same h = tt
judged_front Y (Fault kind) whole front back P same h = same ∙ ap (λ o. option_or o back) h

pub made_front : {X Y : Type 0} (e : LineError) (whole front back : Option GridKind) (P : X → Type 0) (Q : Y → Type 0) → whole ≡ option_or front back
    → (let r : Result X LineError = Err e in Makes r front P) → (let r : Result Y LineError = Err e in Makes r whole Q)
made_front (Memory e) whole front back P Q same h = tt
made_front (Fault kind) whole front back P Q same h = same ∙ ap (λ o. option_or o back) h

-- where the first part has no fault, the second part judges
pub judged_back : {X : Type 0} (r : Result X LineError) (whole front back : Option GridKind) → whole ≡ option_or front back → front ≡ None → Judges r back → Judges r whole
judged_back (Ok x) whole front back same none h = same ∙ option_or-none front back none ∙ h
judged_back (Err (Memory e)) whole front back same none h = tt
judged_back (Err (Fault kind)) whole front back same none h = same ∙ option_or-none front back none ∙ h
