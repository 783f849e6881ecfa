-- What a domain promises: its certificate is valid, its two lists bracket what is secure, and they are near each other.
use Rattle.fb_certificate.specs.Capacity.{IsCapacity}
use Rattle.fb_certificate.specs.Valid.{IsValid}
use Rattle.fb_certificate.specs.declared.types.Inputs.{Inputs}
use Rattle.fb_certificate.specs.declared.types.Certificate.{Certificate}
use Rattle.valid_domains.specs.Gaps.{HasSmallGaps}

pub record IsSoundDomain (inputs : Inputs) (c : Certificate) : Type 0 where
  pub valid : IsValid inputs c
  pub capacity : IsCapacity inputs c
  pub gaps : HasSmallGaps inputs c
