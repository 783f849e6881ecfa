-- Steps of a command. A step gives a value, or the fault that the call is to answer.
use Rattle.std.specs.Prelude.{◌≡◌, ◌⊎◌, Result, Ok, Err}
use Rattle.std.specs.declared.alloc.AllocError.{AllocError}
use Rattle.fbcc_core.specs.declared.answer.Fault.{Fault}
use Rattle.fbcc_core.specs.declared.answer.Fault.TheVariants.{Memory}

-- what a step may come to
abbrev pub Step : Type 0 → Type 1
Step A = Result A Fault → Type 0

-- memory ran out
abbrev pub IsMemory : Fault → Type 0
IsMemory fault = (e : AllocError) × (fault ≡ Memory e)

-- a step that gives what the one says, and refuses as the other says, or finds no memory
abbrev pub step : {A : Type 0} → (A → Type 0) → (Fault → Type 0) → Step A
step takes refuses (Ok a) = takes a
step takes refuses (Err fault) = refuses fault ⊎ IsMemory fault

-- a step that gives this
abbrev pub gives : {A : Type 0} → A → Step A
gives a = step (λ given. given ≡ a) (λ fault. ⊥)

-- one step, and then another with what the first one gave; where the first one refuses, so do both
abbrev pub after : {A B : Type 0} → Step A → (A → Step B) → Step B
after {A} first next (Ok b) = (a : A) × first (Ok a) × next a (Ok b)
after {A} first next (Err fault) = first (Err fault) ⊎ ((a : A) × first (Ok a) × next a (Err fault))
