use Rattle.fb_json.specs.Spots.{doc_tree}
use Rattle.crac_model.proofs.CracLaws.{crac_holds}
use Rattle.crac_model.proofs.reading.read_crac.Goals as goal

pub returns-in-Ok-clause-laws : goal.returns-in-Ok-clause-laws
returns-in-Ok-clause-laws c =
    let read = rw (c.as_slice.ensures.items, c.as_slice-2.ensures.items) at c.in-Ok.ensures in
    crac_holds c.args.grid.now.nodes c.args.grid.now.branches (doc_tree c.args.doc.now) c.in-Ok.crac read
