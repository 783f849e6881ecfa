-- What each command does, step by step.
use Rattle.std.specs.Prelude.{◌≡◌, ◌⊎◌, ℕ, ◌+◌, ℤ, List, [], length, Some, None}
use Rattle.fb_types.specs.Domain.{Follows as FollowsBy, IsPoint, Meets, MeetsCited}
use Rattle.fb_types.specs.declared.grid.Grid.{Grid}
use Rattle.rows_document.specs.declared.reader.RowsDocument.{RowsDocument}
use Rattle.net_table.specs.NetTexts.{net_text}
use Rattle.fb_certificate.specs.Thin.{IsThinDomain}
use Rattle.valid_domains.specs.Sound.{IsSoundDomain}
use Rattle.fb_certificate.specs.Whole.{IsWhole}
use Rattle.fb_certificate.specs.declared.types.Inputs.{Inputs}
use Rattle.fb_certificate.specs.declared.types.Certificate.{Certificate}
use Rattle.certificate_check.specs.declared.verdict.Reason.{Reason}
use Rattle.certificate_check.specs.declared.verdict.Reason.TheVariants.{Follows}
use Rattle.certificate_check.specs.declared.verdict.Verdict.TheVariants as verdict
use Rattle.case_maker.specs.CaseTexts.{IsCase}
use Rattle.certificate_files.specs.Files.{IsFileVerdict}
use Rattle.run_report.specs.SummaryTexts.{summary_text}
use Rattle.run_inputs.specs.Refusals.{IsRefused}
use Rattle.run_inputs.specs.declared.InputsError.{InputsError}
use Rattle.run_inputs.specs.declared.InputsError.TheVariants as refusal
use Rattle.fbcc_core.specs.Reading.{fetched, reads_rows, grid_read, case_documents, run_documents, certificate_read}
use Rattle.fbcc_core.specs.Seen.{ShelfSeen}
use Rattle.fbcc_core.specs.Words.{Names}
use Rattle.fbcc_core.specs.Steps.{Step, step, after}
use Rattle.fbcc_core.specs.Texts.{yes_text, no_text}
use Rattle.fbcc_core.specs.declared.answer.Document.TheVariants as document
use Rattle.fbcc_core.specs.declared.answer.Fault.{Fault}
use Rattle.fbcc_core.specs.declared.answer.Fault.TheVariants.{No, NoSlack, SplitGrid, RangeExceeded, Memory}
use Rattle.fbcc_core.specs.declared.documents.CertificateFile.{CertificateFile}
use Rattle.fbcc_core.specs.declared.documents.RunDocuments.{RunDocuments}
use Rattle.fbcc_core.specs.declared.request.Command.{Command}
use Rattle.fbcc_core.specs.declared.request.Command.TheVariants as command
use Rattle.fbcc_core.specs.Papers.{IsPaper}
use Rattle.fbcc_core.specs.declared.paper.Paper.{Paper}
use Rattle.fbcc_core.specs.declared.paper.Paper.TheVariants.{Table, Evidence, Report}
use Rattle.fbcc_core.specs.declared.work.Work.{Work}

-- ---- rows

-- the multipliers of the document prove its target
abbrev pub Proves : RowsDocument → Type 0
Proves d = FollowsBy d.target d.rows d.by d.bounds

-- every balanced list of whole net positions in the document's box that meets the cited rows meets the target
abbrev pub HoldsTarget : RowsDocument → Type 0
HoldsTarget d = (x : List ℤ) → IsPoint d.bounds x → MeetsCited d.rows d.by x → Meets d.target x

-- the line of the target, counted from 1
abbrev pub target_line : RowsDocument → ℕ
target_line d = length d.bounds + length d.rows + 1

-- the multipliers prove the target, which then holds, and the answer is yes
pub record IsYes (d : RowsDocument) (work : Work) : Type 0 where
  pub proves : Proves d
  pub holds : HoldsTarget d
  pub text : work.text ≡ yes_text
  pub verdict : work.verdict ≡ None

-- the multipliers do not prove it, and the answer is no, at its line
pub record IsNo (d : RowsDocument) (work : Work) : Type 0 where
  pub fails : ¬ Proves d
  pub text : work.text ≡ no_text (target_line d) Follows
  pub verdict : work.verdict ≡ Some (No (target_line d) Follows)

abbrev pub judges : RowsDocument → Step Work
judges d = step (λ work. IsYes d work ⊎ IsNo d work) (λ fault. ⊥)

abbrev pub rows_work : Names → ShelfSeen → Step Work
rows_work names shelf = after (after (fetched names shelf document.Rows) reads_rows) judges

-- ---- net

-- the text of the net positions of the grid
pub record IsNet (grid : Grid) (work : Work) : Type 0 where
  pub text : work.text ≡ net_text grid.nodes grid.branches
  pub verdict : work.verdict ≡ None

abbrev pub nets : Grid → Step Work
nets grid = step (IsNet grid) (λ fault. ⊥)

abbrev pub net_work : Names → ShelfSeen → Step Work
net_work names shelf = after (grid_read names shelf) nets

-- ---- domain, certify, report

-- whole inputs of these documents
pub record AreInputs (documents : RunDocuments) (inputs : Inputs) : Type 0 where
  pub whole : IsWhole inputs
  pub grid_is : inputs.grid ≡ documents.grid
  pub crac_is : inputs.crac ≡ documents.crac
  pub settings_are : inputs.settings ≡ documents.settings
  pub keys_are : inputs.keys ≡ documents.keys
  pub reductions_are : inputs.reductions ≡ documents.reductions

-- the fault that tells why there are no inputs
abbrev pub fault_of : InputsError → Fault
fault_of refusal.NoSlack = NoSlack
fault_of (refusal.SplitGrid state node) = SplitGrid state node
fault_of (refusal.RangeExceeded state) = RangeExceeded state
fault_of (refusal.Memory e) = Memory e

-- the grid states of the documents, or why there are none: slack, then split over all states, then range over all states
abbrev pub puts_together : RunDocuments → Step Inputs
puts_together d =
    step (AreInputs d)
    (λ fault. (e : InputsError) × IsRefused d.grid d.crac d.settings.slack d.keys.columns e × (fault ≡ fault_of e))

-- the documents, one after another, and the states
abbrev pub domain_inputs : Names → ShelfSeen → Step Inputs
domain_inputs names shelf = after (run_documents names shelf) puts_together

-- the text is that of a sound certificate, which keeps no row that follows from the box or from one other
pub record IsDomain (paper : Paper) (inputs : Inputs) (work : Work) : Type 0 where
  pub certificate : Certificate
  pub sound : IsSoundDomain inputs certificate
  pub thin : IsThinDomain inputs certificate
  pub text : IsPaper paper inputs certificate work.text
  pub verdict : work.verdict ≡ None

abbrev pub computes : Paper → Inputs → Step Work
computes paper inputs = step (IsDomain paper inputs) (λ fault. ⊥)

abbrev pub domain_work : Paper → Names → ShelfSeen → Step Work
domain_work paper names shelf = after (domain_inputs names shelf) (computes paper)

-- ---- check

-- the certificate is that of a sound domain, its labels are due, and the answer is yes
pub record IsAccepted (inputs : Inputs) (file : CertificateFile) (work : Work) : Type 0 where
  pub accepted : IsFileVerdict inputs file.bytes file.certificate verdict.Yes
  pub sound : IsSoundDomain inputs file.certificate
  pub text : work.text ≡ yes_text
  pub verdict : work.verdict ≡ None

-- a record fails, and the answer is no, at the first one and with the first reason there
pub record IsRejected (inputs : Inputs) (file : CertificateFile) (work : Work) : Type 0 where
  pub row : ℕ
  pub reason : Reason
  pub rejected : IsFileVerdict inputs file.bytes file.certificate (verdict.No row reason)
  pub text : work.text ≡ no_text row reason
  pub verdict : work.verdict ≡ Some (No row reason)

abbrev pub checks : Inputs → CertificateFile → Step Work
checks inputs file = step (λ work. IsAccepted inputs file work ⊎ IsRejected inputs file work) (λ fault. ⊥)

-- the certificate is read before the states are judged
abbrev pub check_work : Names → ShelfSeen → Step Work
check_work names shelf =
    after (run_documents names shelf) (λ documents.
    after (certificate_read names shelf) (λ file.
    after (puts_together documents) (λ inputs.
    checks inputs file)))

-- ---- selftest

-- the inputs of the generated case with this number and so many nodes
abbrev pub case_inputs : ℕ → ℕ → Step Inputs
case_inputs number nodes =
    after (step (IsCase number nodes) (λ fault. ⊥)) (λ case.
    after (case_documents case) puts_together)

-- the text is the summary of a sound certificate, which the check accepts and which keeps no row that follows
pub record IsTested (number nodes : ℕ) (inputs : Inputs) (work : Work) : Type 0 where
  pub certificate : Certificate
  pub sound : IsSoundDomain inputs certificate
  pub thin : IsThinDomain inputs certificate
  pub text : work.text ≡ summary_text number nodes certificate
  pub verdict : work.verdict ≡ None

abbrev pub tests : ℕ → ℕ → Inputs → Step Work
tests number nodes inputs = step (IsTested number nodes inputs) (λ fault. ⊥)

abbrev pub selftest_work : ℕ → ℕ → Step Work
selftest_work number nodes = after (case_inputs number nodes) (tests number nodes)

-- ---- All commands

abbrev pub work_of : Names → ShelfSeen → Command → Step Work
work_of names shelf command.Rows = rows_work names shelf
work_of names shelf command.Net = net_work names shelf
work_of names shelf command.Domain = domain_work Table names shelf
work_of names shelf command.Certify = domain_work Evidence names shelf
work_of names shelf command.Check = check_work names shelf
work_of names shelf command.Report = domain_work Report names shelf
work_of names shelf (command.Selftest case nodes) = selftest_work case nodes
