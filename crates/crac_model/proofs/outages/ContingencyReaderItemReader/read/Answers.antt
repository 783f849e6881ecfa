use Rattle.std.proofs.lemmas.Result.{err_from_is_err_and}
use Rattle.json_reading.specs.Here.{at_of}
use Rattle.crac_model.specs.Crac.{contingency_ids}
use Rattle.crac_model.specs.Naming.{grid_of}
use Rattle.crac_model.proofs.StepLaws.{no_name, outages_failed, contingency_there}
use Rattle.crac_model.proofs.outages.ContingencyReaderItemReader.read.Goals as goal

pub returns-in_err-outages-clause-item : goal.returns-in_err-outages-clause-item
returns-in_err-outages-clause-item c =
    let p = err_from_is_err_and c.from_residual-in_err-outages.result c.from_residual-in_err-outages.ensures.1 in
    let new = no_name c.args.index.now (contingency_ids c.args._before.now) c.in_ok-id.id.now c.in_ok-add_name.field-0 c.requires c.in_ok-add_name.ensures.added c.if-not-branch.false in
    rw (p.1, p.2)
    (outages_failed (grid_of c.args.self.now.grid) c.args._before.now (at_of c.args.at.now) c.in_ok-id.id.now c.in_err-outages.field-0.0 c.in_ok-id.ensures new c.in_err-outages.ensures.items)

pub returns-clause-item : goal.returns-clause-item
returns-clause-item c =
    let new = no_name c.args.index.now (contingency_ids c.args._before.now) c.in_ok-id.id.now c.in_ok-add_name.field-0 c.requires c.in_ok-add_name.ensures.added c.if-not-branch.false in
    rw (c.in_ok-id-2.ensures.copied, c.in_ok-branches.ensures, c.deref.ensures.value)
    (contingency_there (grid_of c.args.self.now.grid) c.args._before.now (at_of c.args.at.now) c.in_ok-id.id.now c.in_ok-outages.outages.items c.in_ok-id.ensures new c.in_ok-outages.ensures.items)
