-- The status of each answer, and the name and the limit of each document.
use Rattle.std.specs.Prelude.{ℕ, List, Option, Some, None, codes}
use Rattle.fbcc_core.specs.declared.answer.Document.{Document}
use Rattle.fbcc_core.specs.declared.answer.Document.TheVariants as document
use Rattle.fbcc_core.specs.declared.answer.Fault.{Fault}
use Rattle.fbcc_core.specs.declared.answer.Fault.TheVariants.{No, Usage, ReadFault, TooLong, GridFault, JsonFault, CracFault, KeyFault, SettingsFault, ReductionFault, NoSlack, SplitGrid, RangeExceeded, CertificateFault, WriteFault, Memory}

abbrev pub status_of : Option Fault → ℕ
status_of None = 0
status_of (Some (No row reason)) = 1
status_of (Some Usage) = 2
status_of (Some (ReadFault document)) = 3
status_of (Some (TooLong document limit)) = 4
status_of (Some (GridFault line kind)) = 5
status_of (Some (JsonFault document)) = 6
status_of (Some (CracFault place kind)) = 7
status_of (Some (KeyFault place kind)) = 8
status_of (Some (SettingsFault place kind)) = 9
status_of (Some (ReductionFault row kind)) = 10
status_of (Some NoSlack) = 11
status_of (Some (SplitGrid state node)) = 12
status_of (Some (RangeExceeded state)) = 13
status_of (Some (CertificateFault row)) = 14
status_of (Some WriteFault) = 15
status_of (Some (Memory e)) = 16

-- in a fault line
abbrev pub name_of : Document → List ℕ
name_of document.Grid = codes "grid"
name_of document.Crac = codes "crac"
name_of document.Settings = codes "settings"
name_of document.Glsk = codes "glsk"
name_of document.Reductions = codes "reductions"
name_of document.Certificate = codes "certificate"
name_of document.Rows = codes "rows"

-- in bytes
abbrev pub limit_of : Document → ℕ
limit_of document.Grid = 67108864
limit_of document.Crac = 67108864
limit_of document.Settings = 67108864
limit_of document.Glsk = 67108864
limit_of document.Reductions = 67108864
limit_of document.Certificate = 536870912
limit_of document.Rows = 67108864
