use Rattle.fb_json.specs.Spots.{doc_tree}
use Rattle.run_settings.specs.Settings.{settings_of}
use Rattle.run_settings.proofs.AnswerLaws.{answers_fault, answers_said, answers_hold}
use Rattle.run_settings.proofs.document.read_settings.Goals as goal

pub returns-clause-fault : goal.returns-clause-fault
returns-clause-fault c = answers_fault (settings_of c.args.grid.now.nodes (doc_tree c.args.doc.now)) c.read.result c.read.ensures

pub returns-clause-settings : goal.returns-clause-settings
returns-clause-settings c = answers_said (settings_of c.args.grid.now.nodes (doc_tree c.args.doc.now)) c.read.result c.read.ensures

pub returns-clause-laws : goal.returns-clause-laws
returns-clause-laws c = answers_hold c.args.grid.now.nodes (doc_tree c.args.doc.now) c.read.result c.read.ensures
