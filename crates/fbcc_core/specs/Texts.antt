-- What is printed. Every line ends with a line feed.
use Rattle.std.specs.Prelude.{ℕ, List, [], ◌∷◌, ◌++◌, codes}
use Rattle.std.specs.Fmt.{decimal}
use Rattle.fbcc_core.specs.Kinds.{grid_kind_text, crac_kind_text, settings_kind_text, key_kind_text, reduction_kind_text}
use Rattle.fbcc_core.specs.Statuses.{name_of}
use Rattle.certificate_check.specs.declared.verdict.Reason.{Reason}
use Rattle.certificate_check.specs.declared.verdict.Reason.TheVariants as why
use Rattle.fbcc_core.specs.declared.answer.Fault.{Fault}
use Rattle.fbcc_core.specs.declared.answer.Fault.TheVariants.{No, Usage, ReadFault, TooLong, GridFault, JsonFault, CracFault, KeyFault, SettingsFault, ReductionFault, NoSlack, SplitGrid, RangeExceeded, CertificateFault, WriteFault, Memory}

abbrev pub line : List ℕ → List ℕ
line text = text ++ 10 ∷ []

abbrev pub reason_text : Reason → List ℕ
reason_text why.Order = codes "Order"
reason_text why.Barrier = codes "Barrier"
reason_text why.Angle = codes "Angle"
reason_text why.Kappa = codes "Kappa"
reason_text why.Class = codes "Class"
reason_text why.Coefficient = codes "Coefficient"
reason_text why.RightSide = codes "RightSide"
reason_text why.Cited = codes "Cited"
reason_text why.Follows = codes "Follows"

-- the verdict yes
abbrev pub yes_text : List ℕ
yes_text = line (codes "yes")

-- the verdict no, with the line or the record and the reason
abbrev pub no_text : ℕ → Reason → List ℕ
no_text row reason = codes "no " ++ (decimal row ++ (codes " " ++ line (reason_text reason)))

-- a document, a place in it, and what is wrong there
abbrev pub placed_line : List ℕ → List ℕ → List ℕ → List ℕ
placed_line document place kind = document ++ (codes " " ++ (place ++ (codes ": " ++ line kind)))

-- The line that tells a fault on the error output. Of the answer no, which is put to the output, none is told.
abbrev pub fault_line : Fault → List ℕ
fault_line (No row reason) = []
fault_line Usage = line (codes "usage: fbcc COMMAND [--name value]")
fault_line (ReadFault document) = codes "cannot read " ++ line (name_of document)
fault_line (TooLong document limit) = name_of document ++ (codes " is longer than " ++ (decimal limit ++ line (codes " bytes")))
fault_line (GridFault number kind) = codes "grid line " ++ (decimal number ++ (codes ": " ++ line (grid_kind_text kind)))
fault_line (JsonFault document) = name_of document ++ line (codes " is not JSON")
fault_line (CracFault place kind) = placed_line (codes "crac") place (crac_kind_text kind)
fault_line (KeyFault place kind) = placed_line (codes "glsk") place (key_kind_text kind)
fault_line (SettingsFault place kind) = placed_line (codes "settings") place (settings_kind_text kind)
fault_line (ReductionFault row kind) = codes "reductions row " ++ (decimal row ++ (codes ": " ++ line (reduction_kind_text kind)))
fault_line NoSlack = line (codes "no slack node")
fault_line (SplitGrid state node) = codes "split grid in state " ++ (decimal state ++ (codes " at node " ++ line node))
fault_line (RangeExceeded state) = codes "numbers past range in state " ++ line (decimal state)
fault_line (CertificateFault row) = codes "certificate row " ++ (decimal row ++ line (codes " cannot be read"))
fault_line WriteFault = line (codes "cannot write")
fault_line (Memory e) = line (codes "out of memory")
