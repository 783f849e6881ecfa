-- Words of private contracts on what is printed of a domain, which nobody need believe.
use Rattle.std.specs.Prelude.{ℕ, List}
use Rattle.fb_certificate.specs.Thin.{IsThinDomain}
use Rattle.fb_certificate.specs.declared.types.Certificate.{Certificate}
use Rattle.fb_certificate.specs.declared.types.Inputs.{Inputs}
use Rattle.valid_domains.specs.Sound.{IsSoundDomain}
use Rattle.fbcc_core.specs.Papers.{IsPaper}
use Rattle.fbcc_core.specs.declared.paper.Paper.{Paper}

-- the text is that of a sound certificate, which keeps no row that follows from the box or from one other
pub record IsPrinted (paper : Paper) (inputs : Inputs) (text : List ℕ) : Type 0 where
  pub certificate : Certificate
  pub sound : IsSoundDomain inputs certificate
  pub thin : IsThinDomain inputs certificate
  pub says : IsPaper paper inputs certificate text
