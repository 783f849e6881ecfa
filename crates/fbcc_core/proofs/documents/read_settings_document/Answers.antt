use Rattle.fb_json.specs.Spots.{doc_tree}
use Rattle.fbcc_core.proofs.Chains.{settings_joined}
use Rattle.fbcc_core.proofs.documents.read_settings_document.Goals as goal

pub returns-clause-step : goal.returns-clause-step
returns-clause-step g c = settings_joined _ _ c.args.grid.now (doc_tree c.in_ok-doc.doc) c.settings_in.result c.in_ok-doc.ensures.tree c.settings_in.ensures.step
