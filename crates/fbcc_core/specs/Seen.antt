-- What a call sees of a shelf and of a sink.
use Rattle.std.specs.Prelude.{ℕ, Bool, List, Option}
use Rattle.fb_base.specs.Counts.{Rose}
use Rattle.fb_base.specs.Documents.{Documents}

-- a shelf: whether it tells what it holds, its documents, its count of faults before and after the call, and the name of the
-- last fetch that failed
pub record ShelfSeen : Type 0 where
  pub tells : Bool
  pub documents : Documents
  pub faults : ℕ
  pub faults_after : ℕ
  pub last_failed : Option (List ℕ)

-- a sink: whether it tells what it took, its bytes and its count of faults before and after the call
pub record SinkSeen : Type 0 where
  pub tells : Bool
  pub taken : List ℕ
  pub taken_after : List ℕ
  pub faults : ℕ
  pub faults_after : ℕ

-- by the ghost members of a shelf's type
abbrev pub shelf_seen : {S : Type 0} → (S → Bool) → (S → Documents) → (S → ℕ) → (S → Option (List ℕ)) → S → S → ShelfSeen
shelf_seen tells held faults last_failed before after =
    record { tells = tells before; documents = held before; faults = faults before; faults_after = faults after; last_failed = last_failed after }

-- by the ghost members of a sink's type
abbrev pub sink_seen : {S : Type 0} → (S → Bool) → (S → List ℕ) → (S → ℕ) → S → S → SinkSeen
sink_seen tells taken faults before after =
    record { tells = tells before; taken = taken before; taken_after = taken after; faults = faults before; faults_after = faults after }

-- a fault rose in the call, or its count stands at its last value
abbrev pub ShelfFailed : ShelfSeen → Type 0
ShelfFailed s = Rose s.faults s.faults_after

abbrev pub SinkFailed : SinkSeen → Type 0
SinkFailed s = Rose s.faults s.faults_after
