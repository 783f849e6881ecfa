-- The verdict on the file of a certificate is one.
use Rattle.std.proofs.Common.{◌≡◌, ◌∙◌, ◌⊎◌, ℕ, List, map, inl, inr, sym, ap, subst}
use Rattle.std.specs.Prelude.{Some, None, Result, Ok, Err, IfOk, IfErr}
use Rattle.fb_certificate.specs.Valid.{IsValid}
use Rattle.fb_certificate.specs.declared.types.Certificate.{Certificate}
use Rattle.fb_certificate.specs.declared.types.Inputs.{Inputs}
use Rattle.valid_domains.specs.Sound.{IsSoundDomain}
use Rattle.certificate_check.proofs.Ones.{one_verdict}
use Rattle.certificate_check.proofs.Passing.{passed_where_valid}
use Rattle.certificate_check.specs.Verdicts.{IsVerdict}
use Rattle.certificate_check.specs.declared.verdict.Reason.{Reason}
use Rattle.certificate_check.specs.declared.verdict.Verdict.{Verdict}
use Rattle.certificate_check.specs.declared.verdict.Verdict.TheVariants.{Yes, No}
use Rattle.certificate_files.specs.Files.{IsFileVerdict}
use Rattle.certificate_files.proofs.FileVerdicts.{one_file_verdict}
use Rattle.certificate_reader.specs.Drafts.{runs, start}
use Rattle.certificate_reader.specs.Reading.{AreRecordsOf, IsReading, lines_of, unlabelled}
use Rattle.certificate_text.specs.CertificateTexts.{certificate_text}
use Rattle.certificate_reader.proofs.LineLaws.{lines_same}
use Rattle.certificate_reader.proofs.Runs.{runs-certificate, some_same, whole}
use Rattle.fbcc_core.specs.Causes.{answer_for, IsVerdictTold}
use Rattle.fbcc_core.specs.Commands.{IsAccepted, IsRejected, checks}
use Rattle.fbcc_core.specs.Papers.{IsEvidence}
use Rattle.fbcc_core.specs.Steps.{IsMemory}
use Rattle.fbcc_core.specs.Texts.{yes_text}
use Rattle.fbcc_core.specs.declared.answer.Fault.{Fault}
use Rattle.fbcc_core.specs.declared.documents.CertificateFile.{CertificateFile}
use Rattle.fbcc_core.specs.declared.work.Work.{Work}

pub told_of : (inputs : Inputs) (file : CertificateFile) (work : Work) → IsAccepted inputs file work ⊎ IsRejected inputs file work → IsVerdictTold inputs file work.verdict
told_of inputs file work (inl a) = record { verdict = Yes; is = a.accepted; told = a.verdict }
told_of inputs file work (inr r) = record { verdict = No r.row r.reason; is = r.rejected; told = r.verdict }

-- ---- One certificate, and one verdict on it

-- records are those of one certificate
pub reading_is_one : (rows : List (List (List ℕ))) (c d : Certificate) → AreRecordsOf rows c → AreRecordsOf rows d → c ≡ d
reading_is_one rows c d p q =
    let same = lines_same p.lines q.lines p.good q.good (sym p.spelled ∙ q.spelled) in
    let parts : lines_of c ≡ lines_of d = sym p.parts ∙ ap (map unlabelled) same ∙ q.parts in
    let whole_same = some_same (whole c) (whole d) (sym (runs-certificate c) ∙ ap (runs start) parts ∙ runs-certificate d) in
    λ k. record {
      version = (p.version ∙ sym q.version) k;
      states = (whole_same k).states;
      rows = (whole_same k).rows;
      inner = (whole_same k).inner;
      outer = (whole_same k).outer;
    }

pub verdict_is_one : (inputs : Inputs) (bytes : List ℕ) (c : Certificate) (v w : Verdict) → IsFileVerdict inputs bytes c v → IsFileVerdict inputs bytes c w → v ≡ w
verdict_is_one inputs bytes c v w p q = one_file_verdict inputs bytes c v w p q

-- what is written reads back
pub evidence : (inputs : Inputs) (c : Certificate) (text : List ℕ) → text ≡ certificate_text inputs c → IsReading (certificate_text inputs c) c → IsFileVerdict inputs (certificate_text inputs c) c Yes → IsEvidence inputs c text
evidence inputs c text e reading verdict = record {
  is = e;
  reading = subst (λ (t : List ℕ). IsReading t c) (sym e) reading;
  accepted = subst (λ (t : List ℕ). IsFileVerdict inputs t c Yes) (sym e) verdict;
}

-- a valid certificate is not rejected
pub not_rejected : (inputs : Inputs) (c : Certificate) → IsValid inputs c → (row : ℕ) (reason : Reason) → IsVerdict inputs c (No row reason) → ⊥
not_rejected inputs c valid row reason v = let e = one_verdict inputs c Yes (No row reason) (passed_where_valid inputs c valid) v in cc

-- the answer yes
pub yes_checked : (inputs : Inputs) (file : CertificateFile) (bytes : List ℕ) (r : Result Work Fault) → bytes ≡ file.bytes → IsFileVerdict inputs bytes file.certificate Yes
    → IsSoundDomain inputs file.certificate → IfOk r (λ work. work.text ≡ yes_text) → IfOk r (λ work. work.verdict ≡ None) → IfErr r IsMemory → checks inputs file r
yes_checked inputs file bytes (Ok work) e v sound text none memory =
    inl (record { accepted = subst (λ (b : List ℕ). IsFileVerdict inputs b file.certificate Yes) e v; sound = sound; text = text; verdict = none })
yes_checked inputs file bytes (Err fault) e v sound text none memory = inr memory
