use Rattle.fb_json.specs.Spots.{doc_tree}
use Rattle.fbcc_core.proofs.Chains.{keys_joined}
use Rattle.fbcc_core.proofs.documents.read_keys_document.Goals as goal

pub returns-clause-step : goal.returns-clause-step
returns-clause-step g c = keys_joined _ _ c.args.grid.now c.args.settings.now (doc_tree c.in_ok-doc.doc) c.keys_in.result c.in_ok-doc.ensures.tree c.keys_in.ensures.step
