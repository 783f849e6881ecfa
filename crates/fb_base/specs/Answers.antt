-- The answers of a fetch.
use Rattle.std.specs.Prelude.{◌≡◌, ℕ, ⊤, List, Result, Ok, Err, Vec}
use Rattle.fb_base.specs.declared.shelf.Fetch.{Fetch}
use Rattle.fb_base.specs.declared.shelf.Fetch.TheVariants.{Failed, TooLong, Memory}

-- the fetch failed
abbrev pub IsFailed : {T : Type 0} → Result T Fetch → Type 0
IsFailed (Ok bytes) = ⊥
IsFailed (Err Failed) = ⊤
IsFailed (Err (TooLong limit)) = ⊥
IsFailed (Err (Memory e)) = ⊥

-- the document is too long
abbrev pub IsTooLong : {T : Type 0} → Result T Fetch → Type 0
IsTooLong (Ok bytes) = ⊥
IsTooLong (Err Failed) = ⊥
IsTooLong (Err (TooLong limit)) = ⊤
IsTooLong (Err (Memory e)) = ⊥

-- there was no memory
abbrev pub LacksMemory : {T : Type 0} → Result T Fetch → Type 0
LacksMemory (Ok bytes) = ⊥
LacksMemory (Err Failed) = ⊥
LacksMemory (Err (TooLong limit)) = ⊥
LacksMemory (Err (Memory e)) = ⊤

-- an answer that the document is too long tells this limit
abbrev pub TellsLimit : {T : Type 0} → Result T Fetch → ℕ → Type 0
TellsLimit (Ok bytes) passed = ⊤
TellsLimit (Err Failed) passed = ⊤
TellsLimit (Err (TooLong limit)) passed = limit ≡ passed
TellsLimit (Err (Memory e)) passed = ⊤

-- the answer, with the bytes as a list
abbrev pub seen : {A : Type 0} → Result (Vec ℕ A) Fetch → Result (List ℕ) Fetch
seen (Ok bytes) = Ok bytes.items
seen (Err e) = Err e
