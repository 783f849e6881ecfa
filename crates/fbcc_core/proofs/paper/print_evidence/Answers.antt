use Rattle.std.proofs.Common.{◌≡◌}
use Rattle.std.proofs.lemmas.Result.{IfOk-weaker}
use Rattle.certificate_text.specs.CertificateTexts.{certificate_text}
use Rattle.fbcc_core.proofs.Checking.{evidence}
use Rattle.fbcc_core.proofs.paper.print_evidence.Goals as goal

pub returns : goal.returns
returns g c =
    let inputs = c.args.inputs.now in
    let certificate = c.in_ok-certificate.certificate in
    IfOk-weaker c.write_certificate.result (λ text. text.items ≡ certificate_text inputs certificate) _
    (λ text e. record {
      certificate = certificate;
      sound = c.sound.ensures;
      thin = c.in_ok-certificate.ensures.thin;
      says = evidence inputs certificate text.items e c.reads_back.ensures.reading c.reads_back.ensures.verdict;
    })
    c.write_certificate.ensures
