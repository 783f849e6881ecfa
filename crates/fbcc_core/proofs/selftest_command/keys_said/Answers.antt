use Rattle.fb_json.specs.Spots.{doc_tree}
use Rattle.fbcc_core.proofs.Chains.{keys_said_joined}
use Rattle.fbcc_core.proofs.selftest_command.keys_said.Goals as goal

pub returns-clause-step : goal.returns-clause-step
returns-clause-step c = keys_said_joined c.args.text.now c.args.grid.now c.args.settings.now (doc_tree c.in_ok-doc.doc) c.keys_in.result c.in_ok-doc.ensures.tree c.keys_in.ensures.step
