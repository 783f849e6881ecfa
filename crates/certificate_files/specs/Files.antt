-- The verdict on the file of a certificate: its records are judged as they are due, and their labels with them.
use Rattle.std.specs.Prelude.{◌≡◌, ◌⊎◌, ℕ, ◌<◌, ◌≤◌, List}
use Rattle.csv_rows.specs.Rows.{records_in}
use Rattle.fb_certificate.specs.declared.types.Certificate.{Certificate}
use Rattle.fb_certificate.specs.declared.types.Inputs.{Inputs}
use Rattle.certificate_check.specs.Verdicts.{IsVerdict}
use Rattle.certificate_check.specs.declared.verdict.Reason.{Reason}
use Rattle.certificate_check.specs.declared.verdict.Reason.TheVariants.{Order}
use Rattle.certificate_check.specs.declared.verdict.Verdict.{Verdict}
use Rattle.certificate_check.specs.declared.verdict.Verdict.TheVariants.{Yes, No}
use Rattle.certificate_labels.specs.Labels.{due_labels, AreLabelled, IsFirstWrong}

-- the first wrong label of the file is at this record
abbrev pub IsFirstMislabelled : Inputs → List ℕ → ℕ → Type 0
IsFirstMislabelled inputs bytes number = IsFirstWrong (due_labels inputs) (records_in bytes) number

-- its label is wrong, and no record before it fails
pub record FailsByLabel (inputs : Inputs) (bytes : List ℕ) (c : Certificate) (number : ℕ)
    (reason : Reason) : Type 0 where
  pub label : IsFirstMislabelled inputs bytes number
  pub is : reason ≡ Order
  pub first : (n : ℕ) (r : Reason) → IsVerdict inputs c (No n r) → number ≤ n

-- it is the first record of the certificate that fails, and neither its label nor one before it is wrong
pub record FailsByRecord (inputs : Inputs) (bytes : List ℕ) (c : Certificate) (number : ℕ)
    (reason : Reason) : Type 0 where
  pub failure : IsVerdict inputs c (No number reason)
  pub first : (n : ℕ) → IsFirstMislabelled inputs bytes n → number < n

-- the verdict on the bytes, which are this certificate
abbrev pub IsFileVerdict : Inputs → List ℕ → Certificate → Verdict → Type 0
IsFileVerdict inputs bytes c Yes = IsVerdict inputs c Yes × AreLabelled (due_labels inputs) (records_in bytes)
IsFileVerdict inputs bytes c (No number reason) =
    FailsByLabel inputs bytes c number reason ⊎ FailsByRecord inputs bytes c number reason
