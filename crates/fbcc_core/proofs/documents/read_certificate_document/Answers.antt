use Rattle.fbcc_core.proofs.Chains.{certificate_joined}
use Rattle.fbcc_core.proofs.documents.read_certificate_document.Goals as goal

pub returns-clause-step : goal.returns-clause-step
returns-clause-step g c = certificate_joined _ _ c.in_ok-bytes.bytes c.certificate_in.result c.in_ok-bytes.ensures.step c.certificate_in.ensures.step
