-- What is promised of a domain that is printed, as its table, its certificate or its report, of a certificate that is accepted, and of a
-- summary.
use Rattle.std.specs.Prelude.{◌≡◌, ℕ, List, Option, None, Ok}
use Rattle.fb_certificate.specs.Thin.{IsThinDomain}
use Rattle.fb_certificate.specs.declared.types.Inputs.{Inputs}
use Rattle.fb_certificate.specs.declared.types.Certificate.{Certificate}
use Rattle.run_report.specs.SummaryTexts.{summary_text}
use Rattle.valid_domains.specs.Sound.{IsSoundDomain}
use Rattle.certificate_check.specs.declared.verdict.Verdict.TheVariants.{Yes}
use Rattle.certificate_files.specs.Files.{IsFileVerdict}
use Rattle.fbcc_core.specs.Causes.{Took}
use Rattle.fbcc_core.specs.Commands.{case_inputs, domain_inputs}
use Rattle.fbcc_core.specs.Papers.{command_of, IsPaper}
use Rattle.fbcc_core.specs.Reading.{certificate_read}
use Rattle.fbcc_core.specs.Seen.{ShelfSeen, SinkSeen}
use Rattle.fbcc_core.specs.Texts.{yes_text}
use Rattle.fbcc_core.specs.Words.{Asks, name_given}
use Rattle.fbcc_core.specs.declared.answer.Fault.{Fault}
use Rattle.fbcc_core.specs.declared.documents.CertificateFile.{CertificateFile}
use Rattle.fbcc_core.specs.declared.paper.Paper.{Paper}
use Rattle.fbcc_core.specs.declared.request.Command.TheVariants.{Check, Selftest}

-- What was put is the text of a sound certificate, for the inputs that the documents say: it is valid, has the capacity theorem, and
-- its gaps are small. It keeps no row that follows from the box or from one other.
pub record IsDomainPut (paper : Paper) (words : List (List ℕ)) (shelf : ShelfSeen) (out : SinkSeen) : Type 0 where
  pub inputs : Inputs
  pub said : domain_inputs (name_given words) shelf (Ok inputs)
  pub certificate : Certificate
  pub sound : IsSoundDomain inputs certificate
  pub thin : IsThinDomain inputs certificate
  pub text : List ℕ
  pub says : IsPaper paper inputs certificate text
  pub put : Took out text

-- where the words ask for a domain in one of its forms, and the answer is no fault
abbrev pub PrintsCapacity : List (List ℕ) → ShelfSeen → SinkSeen → Option Fault → Type 0
PrintsCapacity words shelf out answer = (paper : Paper) → Asks words (command_of paper) → answer ≡ None → IsDomainPut paper words shelf out

-- The certificate, for the inputs that the documents say, is accepted with all its labels, and it is that of a sound domain. What
-- was put is yes.
pub record IsCertificateAccepted (words : List (List ℕ)) (shelf : ShelfSeen) (out : SinkSeen) : Type 0 where
  pub inputs : Inputs
  pub said : domain_inputs (name_given words) shelf (Ok inputs)
  pub file : CertificateFile
  pub read : certificate_read (name_given words) shelf (Ok file)
  pub accepted : IsFileVerdict inputs file.bytes file.certificate Yes
  pub sound : IsSoundDomain inputs file.certificate
  pub put : Took out yes_text

-- where the words ask to check one, and the answer is no fault
abbrev pub ChecksCapacity : List (List ℕ) → ShelfSeen → SinkSeen → Option Fault → Type 0
ChecksCapacity words shelf out answer = Asks words Check → answer ≡ None → IsCertificateAccepted words shelf out

-- What was put is the summary of a sound certificate, for the inputs of the generated case: it keeps no row that follows from the box
-- or from one other.
pub record IsSummaryPut (number nodes : ℕ) (out : SinkSeen) : Type 0 where
  pub inputs : Inputs
  pub said : case_inputs number nodes (Ok inputs)
  pub certificate : Certificate
  pub sound : IsSoundDomain inputs certificate
  pub thin : IsThinDomain inputs certificate
  pub put : Took out (summary_text number nodes certificate)

-- where the words ask for a generated case, and the answer is no fault
abbrev pub PrintsSummary : List (List ℕ) → SinkSeen → Option Fault → Type 0
PrintsSummary words out answer = (number nodes : ℕ) → Asks words (Selftest number nodes) → answer ≡ None → IsSummaryPut number nodes out
