use Rattle.std.proofs.Common.{◌≡◌}
use Rattle.std.proofs.lemmas.Result.{IfOk-weaker}
use Rattle.domain_report.specs.DomainTexts.{domain_text}
use Rattle.fbcc_core.proofs.PrintedTexts.{table_printed}
use Rattle.fbcc_core.proofs.paper.print_table.Goals as goal

pub returns : goal.returns
returns g c =
    let inputs = c.args.inputs.now in
    let domain = c.in_ok-domain.domain in
    IfOk-weaker c.write_domain.result (λ text. text.items ≡ domain_text inputs domain.certificate) _
    (λ text e. table_printed inputs domain text.items c.requires.whole c.in_ok-domain.ensures e) c.write_domain.ensures
