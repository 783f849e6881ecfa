-- What the answer of the reader says.
use Rattle.std.specs.Prelude.{◌≡◌, ℕ, List, Result, Ok, Err}
use Rattle.glsk_keys.specs.Document.{Read}
use Rattle.glsk_keys.specs.declared.model.KeyKind.{KeyKind}
use Rattle.glsk_keys.specs.declared.model.Keys.{Keys}
use Rattle.glsk_keys.specs.declared.model.KeyError.{KeyError}
use Rattle.glsk_keys.specs.declared.model.KeyError.TheVariants as errors

-- Keys are what the reading gives, and a fault is the reading's. Memory may run out at any time.
abbrev pub Answers : Read Keys → Result Keys KeyError → Type 0
Answers reading (Ok keys) = reading ≡ Ok keys
Answers reading (Err (errors.Fault place kind)) = reading ≡ Err (record { place = place; kind = kind })
Answers reading (Err (errors.Memory e)) = Unit {0}

-- this fault, unless memory ran out
abbrev pub IsFault : List ℕ → KeyKind → Result Keys KeyError → Type 0
IsFault place kind (Ok keys) = ⊥
IsFault place kind (Err (errors.Fault p k)) = (p ≡ place) × (k ≡ kind)
IsFault place kind (Err (errors.Memory e)) = Unit {0}

-- these keys, unless memory ran out
abbrev pub AreRead : Keys → Result Keys KeyError → Type 0
AreRead what (Ok keys) = keys ≡ what
AreRead what (Err (errors.Fault place kind)) = ⊥
AreRead what (Err (errors.Memory e)) = Unit {0}
