-- What is printed of a domain, and which command prints it.
use Rattle.std.specs.Prelude.{◌≡◌, ℕ, List}
use Rattle.fb_certificate.specs.declared.types.Certificate.{Certificate}
use Rattle.fb_certificate.specs.declared.types.Inputs.{Inputs}
use Rattle.certificate_text.specs.CertificateTexts.{certificate_text}
use Rattle.certificate_reader.specs.Reading.{IsReading}
use Rattle.certificate_check.specs.declared.verdict.Verdict.TheVariants.{Yes}
use Rattle.certificate_files.specs.Files.{IsFileVerdict}
use Rattle.domain_report.specs.DomainTexts.{domain_text}
use Rattle.run_report.specs.ReportTexts.{IsReport}
use Rattle.fbcc_core.specs.declared.paper.Paper.{Paper}
use Rattle.fbcc_core.specs.declared.paper.Paper.TheVariants.{Table, Evidence, Report}
use Rattle.fbcc_core.specs.declared.request.Command.{Command}
use Rattle.fbcc_core.specs.declared.request.Command.TheVariants as command

-- `domain` prints the table, `certify` the certificate, and `report` the report
abbrev pub command_of : Paper → Command
command_of Table = command.Domain
command_of Evidence = command.Certify
command_of Report = command.Report

-- the text of the certificate, which reads as that certificate, and to which `check` says yes
pub record IsEvidence (inputs : Inputs) (certificate : Certificate) (text : List ℕ) : Type 0 where
  pub is : text ≡ certificate_text inputs certificate
  pub reading : IsReading text certificate
  pub accepted : IsFileVerdict inputs text certificate Yes

-- the text of a domain with this certificate
abbrev pub IsPaper : Paper → Inputs → Certificate → List ℕ → Type 0
IsPaper Table inputs certificate text = text ≡ domain_text inputs certificate
IsPaper Evidence inputs certificate text = IsEvidence inputs certificate text
IsPaper Report inputs certificate text = IsReport inputs certificate text
