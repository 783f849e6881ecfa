-- What a domain is when the proofs of its grid states have been let go: the rest of a valid certificate, and the spans of its rows.
use Rattle.std.specs.Prelude.{◌≡◌, List, []}
use Rattle.std.specs.List.{AllZip}
use Rattle.cnec_rows.specs.declared.types.RowProof.{RowProof}
use Rattle.cnec_rows.specs.declared.types.RowSpans.{RowSpans}
use Rattle.state_proofs.specs.declared.StateProof.{StateProof}
use Rattle.fb_certificate.specs.CracRows.{CracRow, crac_rows}
use Rattle.fb_certificate.specs.Thin.{IsThinDomain}
use Rattle.fb_certificate.specs.Valid.{AreNumbersOf, IsValid}
use Rattle.fb_certificate.specs.declared.types.Certificate.{Certificate}
use Rattle.fb_certificate.specs.declared.types.Inputs.{Inputs}
use Rattle.domain_maker.specs.declared.domain.Domain.{Domain}

-- the certificate without the proofs of the states
abbrev pub without_proofs : Certificate → Certificate
without_proofs c = record { version = c.version; states = []; rows = c.rows; inner = c.inner; outer = c.outer }

-- the spans of a row are those that the proofs of the states give
pub record AreSpansOf (inputs : Inputs) (proofs : List StateProof) (row : CracRow) (spans : RowSpans) : Type 0 where
  pub numbers : RowProof
  pub are : AreNumbersOf inputs proofs row spans numbers

-- There is a valid certificate that keeps no row that follows: the domain is that certificate without its proofs, and the spans of its rows.
pub record IsDomainOf (inputs : Inputs) (domain : Domain) : Type 0 where
  pub full : Certificate
  pub valid : IsValid inputs full
  pub thin : IsThinDomain inputs full
  pub same : domain.certificate ≡ without_proofs full
  pub spans : AllZip (AreSpansOf inputs full.states) (crac_rows inputs.crac.elements) domain.spans
