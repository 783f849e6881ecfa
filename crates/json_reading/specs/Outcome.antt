-- What a reader of the code returns, against the reading that it is to give.
-- Nobody need believe these words: they are of contracts inside readers.
use Rattle.std.specs.Prelude.{◌≡◌, ℕ, List, Result, Ok, Err}
use Rattle.json_reading.specs.Reading.{Fault}
use Rattle.json_reading.specs.declared.fault.ReadError.{ReadError}
use Rattle.json_reading.specs.declared.fault.ReadError.TheVariants as errors

-- memory may run out at any time; any other error is the reading's fault
abbrev pub Fails : {K Y : Type 0} → ReadError K → Result Y (Fault K) → Type 0
Fails (errors.Memory e) reading = Unit {0}
Fails (errors.Fault place kind) reading = reading ≡ Err (record { place = place; kind = kind })

-- What a function returned, seen by view, is what the reading says, unless memory ran out.
abbrev pub Gives : {K X Y : Type 0} → (X → Y) → Result X (ReadError K) → Result Y (Fault K) → Type 0
Gives view (Ok x) reading = reading ≡ Ok (view x)
Gives view (Err e) reading = Fails e reading

-- a fault of this kind at this place, unless memory ran out
abbrev pub Refuses : {K : Type 0} → ReadError K → List ℕ → K → Type 0
Refuses (errors.Memory e) place kind = Unit {0}
Refuses (errors.Fault p k) place kind = (p ≡ place) × (k ≡ kind)

abbrev pub same : {X : Type 0} → X → X
same x = x
