use Rattle.std.proofs.lemmas.Result.{err_from_is_err_and}
use Rattle.fbcc_core.proofs.Chains.{kept_from, first_part, later_part, last_part, documents_part, certificate_part, certificate_end, check_joined, check_unread, file_refused, check_refused}
use Rattle.fbcc_core.proofs.check_command.check_work.Goals as goal

pub returns-in_err-documents : goal.returns-in_err-documents
returns-in_err-documents g c =
    let p = err_from_is_err_and c.from_residual.result c.from_residual.ensures.1 in
    rw (p.1, p.2) (check_unread _ _ c.in_err-documents.field-0.0 c.in_err-documents.ensures.steps)

pub returns-in_err-file : goal.returns-in_err-file
returns-in_err-file g c =
    let k = kept_from g.H.Shelf.tells g.H.Shelf.held g.H.Shelf.faults c.args.shelf.now c.read_run_documents.new.shelf c.in_ok-documents.ensures.still_tells c.in_ok-documents.ensures.still_held c.in_ok-documents.ensures.never_falls in
    let p = err_from_is_err_and c.from_residual-in_err-file.result c.from_residual-in_err-file.ensures.1 in
    rw (p.1, p.2) (file_refused _ _ c.in_ok-documents.documents c.in_err-file.field-0.0
    (documents_part _ _ _ (first_part g.H.Shelf.tells g.H.Shelf.held g.H.Shelf.faults g.H.Shelf.last_failed c.args.shelf.now c.read_run_documents.new.shelf c.read_certificate_document.new.shelf) c.in_ok-documents.documents c.in_ok-documents.ensures.steps)
    (certificate_end _ _ _ (last_part g.H.Shelf.tells g.H.Shelf.held g.H.Shelf.faults g.H.Shelf.last_failed c.args.shelf.now c.read_run_documents.new.shelf c.read_certificate_document.new.shelf k) c.in_err-file.field-0.0 c.in_err-file.ensures.step))

pub returns-in_err-inputs : goal.returns-in_err-inputs
returns-in_err-inputs g c =
    let k = kept_from g.H.Shelf.tells g.H.Shelf.held g.H.Shelf.faults c.args.shelf.now c.read_run_documents.new.shelf c.in_ok-documents.ensures.still_tells c.in_ok-documents.ensures.still_held c.in_ok-documents.ensures.never_falls in
    let p = err_from_is_err_and c.from_residual-in_err-inputs.result c.from_residual-in_err-inputs.ensures.1 in
    rw (p.1, p.2) (check_refused _ _ c.in_ok-documents.documents c.in_ok-file.file c.in_err-inputs.field-0.0
    (documents_part _ _ _ (first_part g.H.Shelf.tells g.H.Shelf.held g.H.Shelf.faults g.H.Shelf.last_failed c.args.shelf.now c.read_run_documents.new.shelf c.read_certificate_document.new.shelf) c.in_ok-documents.documents c.in_ok-documents.ensures.steps)
    (certificate_part _ _ _ (later_part g.H.Shelf.tells g.H.Shelf.held g.H.Shelf.faults g.H.Shelf.last_failed c.args.shelf.now c.read_run_documents.new.shelf c.read_certificate_document.new.shelf c.read_certificate_document.new.shelf k) c.in_ok-file.file c.in_ok-file.ensures.step)
    c.in_err-inputs.ensures.step)

pub returns : goal.returns
returns g c =
    let k = kept_from g.H.Shelf.tells g.H.Shelf.held g.H.Shelf.faults c.args.shelf.now c.read_run_documents.new.shelf c.in_ok-documents.ensures.still_tells c.in_ok-documents.ensures.still_held c.in_ok-documents.ensures.never_falls in
    check_joined _ _ c.in_ok-documents.documents c.in_ok-file.file c.in_ok-inputs.inputs c.judge_file.result
    (documents_part _ _ _ (first_part g.H.Shelf.tells g.H.Shelf.held g.H.Shelf.faults g.H.Shelf.last_failed c.args.shelf.now c.read_run_documents.new.shelf c.read_certificate_document.new.shelf) c.in_ok-documents.documents c.in_ok-documents.ensures.steps)
    (certificate_part _ _ _ (later_part g.H.Shelf.tells g.H.Shelf.held g.H.Shelf.faults g.H.Shelf.last_failed c.args.shelf.now c.read_run_documents.new.shelf c.read_certificate_document.new.shelf c.read_certificate_document.new.shelf k) c.in_ok-file.file c.in_ok-file.ensures.step)
    c.in_ok-inputs.ensures.step c.judge_file.ensures
