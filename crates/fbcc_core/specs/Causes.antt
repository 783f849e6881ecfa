-- The answers of the call and their causes.
use Rattle.std.specs.Prelude.{◌≡◌, ◌⊎◌, ℕ, List, ◌++◌, Option, Some, None, Result, Ok, Err, IsTrue}
use Rattle.fb_base.specs.Pieces.{AppendsPrefix}
use Rattle.fb_certificate.specs.declared.types.Inputs.{Inputs}
use Rattle.certificate_check.specs.declared.verdict.Verdict.{Verdict}
use Rattle.certificate_check.specs.declared.verdict.Verdict.TheVariants as verdict
use Rattle.certificate_files.specs.Files.{IsFileVerdict}
use Rattle.fbcc_core.specs.Commands.{work_of, domain_inputs}
use Rattle.fbcc_core.specs.Papers.{command_of}
use Rattle.fbcc_core.specs.Reading.{certificate_read}
use Rattle.fbcc_core.specs.Seen.{ShelfSeen, SinkSeen, ShelfFailed, SinkFailed}
use Rattle.fbcc_core.specs.Steps.{IsMemory}
use Rattle.fbcc_core.specs.Texts.{fault_line}
use Rattle.fbcc_core.specs.Words.{Asks, Accepts, name_given}
use Rattle.fbcc_core.specs.declared.answer.Fault.{Fault}
use Rattle.fbcc_core.specs.declared.answer.Fault.TheVariants.{No, Usage, ReadFault, TooLong, GridFault, JsonFault, CracFault, KeyFault, SettingsFault, ReductionFault, NoSlack, SplitGrid, RangeExceeded, CertificateFault, WriteFault, Memory}
use Rattle.fbcc_core.specs.declared.documents.CertificateFile.{CertificateFile}
use Rattle.fbcc_core.specs.declared.request.Command.{Command}
use Rattle.fbcc_core.specs.declared.request.Command.TheVariants as command
use Rattle.fbcc_core.specs.declared.paper.Paper.{Paper}
use Rattle.fbcc_core.specs.declared.work.Work.{Work}

-- ---- What a sink took

-- the sink is as it was
pub record IsUntouched (sink : SinkSeen) : Type 0 where
  pub taken : sink.taken_after ≡ sink.taken
  pub faults : sink.faults_after ≡ sink.faults

-- the text, and nothing else, was put
abbrev pub Took : SinkSeen → List ℕ → Type 0
Took sink text = IsTrue sink.tells → sink.taken_after ≡ sink.taken ++ text

-- the sink failed, and a prefix of the text, and nothing else, was put
abbrev pub TookPrefix : SinkSeen → List ℕ → Type 0
TookPrefix sink text = SinkFailed sink × (IsTrue sink.tells → AppendsPrefix sink.taken sink.taken_after text)

-- ---- Causes

-- the steps of the command that the words ask for come to this
pub record Comes (words : List (List ℕ)) (shelf : ShelfSeen) (result : Result Work Fault) : Type 0 where
  pub command : Command
  pub asked : Asks words command
  pub steps : work_of (name_given words) shelf command result

-- the words are no command with its options; nothing is put
pub record IsMisused (words : List (List ℕ)) (out : SinkSeen) (answer : Option Fault) : Type 0 where
  pub is : answer ≡ Some Usage
  pub refused : ¬ Accepts words
  pub put : IsUntouched out

-- the work is done, and its text is put
pub record IsDone (words : List (List ℕ)) (shelf : ShelfSeen) (out : SinkSeen) (answer : Option Fault) : Type 0 where
  pub work : Work
  pub is : answer ≡ work.verdict
  pub comes : Comes words shelf (Ok work)
  pub put : Took out work.text

-- a step refuses; nothing is put
pub record IsRefusedBy (words : List (List ℕ)) (shelf : ShelfSeen) (out : SinkSeen) (answer : Option Fault) : Type 0 where
  pub fault : Fault
  pub is : answer ≡ Some fault
  pub comes : Comes words shelf (Err fault)
  pub put : IsUntouched out

-- the work is done, and the output failed at its text
pub record IsUnwritten (words : List (List ℕ)) (shelf : ShelfSeen) (out : SinkSeen) (answer : Option Fault) : Type 0 where
  pub is : answer ≡ Some WriteFault
  pub work : Work
  pub comes : Comes words shelf (Ok work)
  pub put : TookPrefix out work.text

-- memory ran out
abbrev pub IsOutOfMemory : Option Fault → Type 0
IsOutOfMemory None = ⊥
IsOutOfMemory (Some fault) = IsMemory fault

-- memory ran out, and nothing is put
pub record IsStarved (out : SinkSeen) (answer : Option Fault) : Type 0 where
  pub is : IsOutOfMemory answer
  pub put : IsUntouched out

-- why the call answers as it does, and what is put to the output
abbrev pub IsCaused : List (List ℕ) → ShelfSeen → SinkSeen → Option Fault → Type 0
IsCaused words shelf out answer =
    IsMisused words out answer
    ⊎ (IsDone words shelf out answer
    ⊎ (IsRefusedBy words shelf out answer
    ⊎ (IsUnwritten words shelf out answer
    ⊎ IsStarved out answer)))

-- ---- Each answer comes wherever it is caused

-- Where the shelf tells its documents and does not fail, the fault to which the steps come is the answer, unless memory ran out ..
abbrev pub Refuses : List (List ℕ) → ShelfSeen → Option Fault → Type 0
Refuses words shelf answer =
    (fault : Fault) → Comes words shelf (Err fault) → IsTrue shelf.tells → ¬ ShelfFailed shelf
    → (answer ≡ Some fault) ⊎ (IsMemory fault ⊎ IsOutOfMemory answer)

-- .. and where the output does not fail either, so is the verdict of the work ..
abbrev pub Judges : List (List ℕ) → ShelfSeen → SinkSeen → Option Fault → Type 0
Judges words shelf out answer =
    (work : Work) → Comes words shelf (Ok work) → IsTrue shelf.tells → ¬ ShelfFailed shelf → ¬ SinkFailed out
    → (answer ≡ work.verdict) ⊎ IsOutOfMemory answer

-- .. and a domain is printed, in each of its forms, wherever its documents can be read and their states are in order.
abbrev pub Completes : List (List ℕ) → ShelfSeen → SinkSeen → Option Fault → Type 0
Completes words shelf out answer =
    (paper : Paper) → (inputs : Inputs) → Asks words (command_of paper) → domain_inputs (name_given words) shelf (Ok inputs) → IsTrue shelf.tells → ¬ ShelfFailed shelf → ¬ SinkFailed out
    → (answer ≡ None) ⊎ IsOutOfMemory answer

-- the answer for a verdict on a certificate
abbrev pub answer_for : Verdict → Option Fault
answer_for verdict.Yes = None
answer_for (verdict.No row reason) = Some (No row reason)

-- the answer is the verdict on the certificate; there is at most one
pub record IsVerdictTold (inputs : Inputs) (file : CertificateFile) (answer : Option Fault) : Type 0 where
  pub verdict : Verdict
  pub is : IsFileVerdict inputs file.bytes file.certificate verdict
  pub told : answer ≡ answer_for verdict

-- A certificate is judged wherever it and the documents can be read and their states are in order.
abbrev pub Verifies : List (List ℕ) → ShelfSeen → SinkSeen → Option Fault → Type 0
Verifies words shelf out answer =
    (inputs : Inputs) (file : CertificateFile) → Asks words command.Check → domain_inputs (name_given words) shelf (Ok inputs) → certificate_read (name_given words) shelf (Ok file)
    → IsTrue shelf.tells → ¬ ShelfFailed shelf → ¬ SinkFailed out → IsVerdictTold inputs file answer ⊎ IsOutOfMemory answer

-- ---- What is told

-- the fault's line was put, or a prefix of it where the error output failed
abbrev pub IsLineTold : SinkSeen → Fault → Type 0
IsLineTold err fault = Took err (fault_line fault) ⊎ TookPrefix err (fault_line fault)

-- what was put to the error output: the fault's line, and nothing where there is no fault or the answer is no
abbrev pub IsTold : SinkSeen → Option Fault → Type 0
IsTold err None = IsUntouched err
IsTold err (Some (No row reason)) = IsUntouched err
IsTold err (Some Usage) = IsLineTold err Usage
IsTold err (Some (ReadFault document)) = IsLineTold err (ReadFault document)
IsTold err (Some (TooLong document limit)) = IsLineTold err (TooLong document limit)
IsTold err (Some (GridFault line kind)) = IsLineTold err (GridFault line kind)
IsTold err (Some (JsonFault document)) = IsLineTold err (JsonFault document)
IsTold err (Some (CracFault place kind)) = IsLineTold err (CracFault place kind)
IsTold err (Some (KeyFault place kind)) = IsLineTold err (KeyFault place kind)
IsTold err (Some (SettingsFault place kind)) = IsLineTold err (SettingsFault place kind)
IsTold err (Some (ReductionFault row kind)) = IsLineTold err (ReductionFault row kind)
IsTold err (Some NoSlack) = IsLineTold err NoSlack
IsTold err (Some (SplitGrid state node)) = IsLineTold err (SplitGrid state node)
IsTold err (Some (RangeExceeded state)) = IsLineTold err (RangeExceeded state)
IsTold err (Some (CertificateFault row)) = IsLineTold err (CertificateFault row)
IsTold err (Some WriteFault) = IsLineTold err WriteFault
IsTold err (Some (Memory e)) = IsLineTold err (Memory e)
