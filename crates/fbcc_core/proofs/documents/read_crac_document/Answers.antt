use Rattle.fb_json.specs.Spots.{doc_tree}
use Rattle.fbcc_core.proofs.Chains.{crac_joined}
use Rattle.fbcc_core.proofs.documents.read_crac_document.Goals as goal

pub returns-clause-step : goal.returns-clause-step
returns-clause-step g c = crac_joined _ _ c.args.grid.now (doc_tree c.in_ok-doc.doc) c.crac_in.result c.in_ok-doc.ensures.tree c.crac_in.ensures.step
