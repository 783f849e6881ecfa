use Rattle.fb_json.specs.Spots.{doc_tree}
use Rattle.fbcc_core.proofs.Chains.{crac_said_joined}
use Rattle.fbcc_core.proofs.selftest_command.crac_said.Goals as goal

pub returns-clause-step : goal.returns-clause-step
returns-clause-step c = crac_said_joined c.args.text.now c.args.grid.now (doc_tree c.in_ok-doc.doc) c.crac_in.result c.in_ok-doc.ensures.tree c.crac_in.ensures.step
