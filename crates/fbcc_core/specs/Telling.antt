-- Words of private contracts on the line that tells a fault. Nobody need believe them, since what is told is said in Causes.
use Rattle.std.specs.Prelude.{◌≡◌, ◌⊎◌, Option, Some, None}
use Rattle.fbcc_core.specs.Steps.{IsMemory}
use Rattle.fbcc_core.specs.declared.answer.Fault.{Fault}
use Rattle.fbcc_core.specs.declared.answer.Fault.TheVariants.{No, Usage, ReadFault, TooLong, GridFault, JsonFault, CracFault, KeyFault, SettingsFault, ReductionFault, NoSlack, SplitGrid, RangeExceeded, CertificateFault, WriteFault, Memory}

-- its line has a name or a number in it, for which memory is taken
abbrev pub IsMade : Fault → Type 0
IsMade (No row reason) = ⊥
IsMade Usage = ⊥
IsMade (ReadFault document) = Unit {0}
IsMade (TooLong document limit) = Unit {0}
IsMade (GridFault line kind) = Unit {0}
IsMade (JsonFault document) = Unit {0}
IsMade (CracFault place kind) = Unit {0}
IsMade (KeyFault place kind) = Unit {0}
IsMade (SettingsFault place kind) = Unit {0}
IsMade (ReductionFault row kind) = Unit {0}
IsMade NoSlack = ⊥
IsMade (SplitGrid state node) = Unit {0}
IsMade (RangeExceeded state) = Unit {0}
IsMade (CertificateFault row) = Unit {0}
IsMade WriteFault = ⊥
IsMade (Memory e) = ⊥

-- the fault stays, or there is no memory for its line
abbrev pub IsFaultKept : Fault → Fault → Type 0
IsFaultKept fault told = (told ≡ fault) ⊎ (IsMade fault × IsMemory told)

abbrev pub IsKept : Option Fault → Option Fault → Type 0
IsKept None told = told ≡ None
IsKept (Some fault) None = ⊥
IsKept (Some fault) (Some told) = IsFaultKept fault told
