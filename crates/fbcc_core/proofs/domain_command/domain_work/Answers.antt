use Rattle.std.proofs.lemmas.Result.{err_from_is_err_and}
use Rattle.fbcc_core.proofs.Chains.{domain_joined, domain_refused, domain_unread}
use Rattle.fbcc_core.proofs.domain_command.domain_work.Goals as goal

pub returns-in_err-documents : goal.returns-in_err-documents
returns-in_err-documents g c =
    let p = err_from_is_err_and c.from_residual.result c.from_residual.ensures.1 in
    rw (p.1, p.2) (domain_unread _ _ c.args.paper c.in_err-documents.field-0.0 c.in_err-documents.ensures.steps)

pub returns-in_err-inputs : goal.returns-in_err-inputs
returns-in_err-inputs g c =
    let p = err_from_is_err_and c.from_residual-in_err-inputs.result c.from_residual-in_err-inputs.ensures.1 in
    rw (p.1, p.2) (domain_refused _ _ c.args.paper c.in_ok-documents.documents c.in_err-inputs.field-0.0 c.in_ok-documents.ensures.steps c.in_err-inputs.ensures.step)

pub returns : goal.returns
returns g c = domain_joined _ _ c.args.paper c.in_ok-documents.documents c.in_ok-inputs.inputs c.compute.result c.in_ok-documents.ensures.steps c.in_ok-inputs.ensures.step c.compute.ensures
