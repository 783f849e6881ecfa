-- What the reader of a CRAC answers, against what the document says.
use Rattle.std.specs.Prelude.{◌≡◌, ℕ, List, Result, Ok, Err}
use Rattle.fb_types.specs.declared.crac.Crac.{Crac}
use Rattle.json_reading.specs.Reading.{Reading}
use Rattle.json_reading.specs.declared.fault.ReadError.{ReadError}
use Rattle.json_reading.specs.declared.fault.ReadError.TheVariants as readings
use Rattle.crac_model.specs.declared.fault.CracKind.{CracKind}
use Rattle.crac_model.specs.declared.fault.CracError.{CracError}
use Rattle.crac_model.specs.declared.fault.CracError.TheVariants.{Fault as fault, Memory}

-- the same error by its own name
abbrev pub error_of : ReadError CracKind → CracError
error_of (readings.Fault place kind) = fault place kind
error_of (readings.Memory e) = Memory e

-- an answer is what the document says, or its first fault, unless memory runs out
abbrev pub Answers : Reading CracKind Crac → Result Crac CracError → Type 0
Answers reading (Ok crac) = reading ≡ Ok crac
Answers reading (Err (fault place kind)) = reading ≡ Err (record { place = place; kind = kind })
Answers reading (Err (Memory e)) = Unit {0}

-- an answer is this fault, unless memory runs out
abbrev pub IsFault : List ℕ → CracKind → Result Crac CracError → Type 0
IsFault place kind (Ok crac) = ⊥
IsFault place kind (Err (fault p k)) = (p ≡ place) × (k ≡ kind)
IsFault place kind (Err (Memory e)) = Unit {0}

-- an answer is this CRAC, unless memory runs out
abbrev pub IsCrac : Crac → Result Crac CracError → Type 0
IsCrac crac (Ok c) = c ≡ crac
IsCrac crac (Err (fault place kind)) = ⊥
IsCrac crac (Err (Memory e)) = Unit {0}
