-- The verdict on a certificate: the first record that fails, and the first reason there.
use Rattle.std.specs.Prelude.{◌≡◌, ℕ, ◌+◌, ◌<◌, List, ◌∷◌, ◌++◌, length, All}
use Rattle.fb_certificate.specs.declared.types.Certificate.{Certificate}
use Rattle.fb_certificate.specs.declared.types.Inputs.{Inputs}
use Rattle.certificate_check.specs.Records.{Record, Meets, records_of}
use Rattle.certificate_check.specs.declared.verdict.Reason.{Reason}
use Rattle.certificate_check.specs.declared.verdict.Reason.TheVariants as why
use Rattle.certificate_check.specs.declared.verdict.Verdict.{Verdict}
use Rattle.certificate_check.specs.declared.verdict.Verdict.TheVariants.{Yes, No}

-- the order in which reasons are tried
abbrev pub rank : Reason → ℕ
rank why.Order = 0
rank why.Barrier = 1
rank why.Angle = 2
rank why.Kappa = 3
rank why.Class = 4
rank why.Coefficient = 5
rank why.RightSide = 6
rank why.Cited = 7
rank why.Follows = 8

-- the record fails for no reason
abbrev pub Passes : Inputs → Certificate → Record → Type 0
Passes inputs c r = (reason : Reason) → Meets inputs c r reason

-- this is the first reason for which the record fails
pub record FailsBy (inputs : Inputs) (c : Certificate) (r : Record) (reason : Reason) : Type 0 where
  pub fails : Meets inputs c r reason → ⊥
  pub first : (earlier : Reason) → rank earlier < rank reason → Meets inputs c r earlier

-- the record of this number, from 1, is the first that fails, and this is the first reason there
pub record IsFirstFailure (inputs : Inputs) (c : Certificate) (records : List Record) (number : ℕ)
    (reason : Reason) : Type 0 where
  pub before : List Record
  pub here : Record
  pub after : List Record
  pub parts : records ≡ before ++ here ∷ after
  pub place : number ≡ length before + 1
  pub passed : All (Passes inputs c) before
  pub failed : FailsBy inputs c here reason

-- yes where all records pass, and otherwise the first that fails, with its first reason
abbrev pub IsVerdict : Inputs → Certificate → Verdict → Type 0
IsVerdict inputs c Yes = All (Passes inputs c) (records_of inputs c)
IsVerdict inputs c (No number reason) = IsFirstFailure inputs c (records_of inputs c) number reason
