use Rattle.glsk_keys.proofs.AnswerLaws.{answers_fault, answers_keys, answers_hold}
use Rattle.glsk_keys.proofs.read_keys.Goals as goal

pub returns-clause-fault : goal.returns-clause-fault
returns-clause-fault c = answers_fault _ c.read.result c.read.ensures

pub returns-clause-keys : goal.returns-clause-keys
returns-clause-keys c = answers_keys _ c.read.result c.read.ensures

pub returns-clause-laws : goal.returns-clause-laws
returns-clause-laws c =
    answers_hold c.args.grid.now.nodes c.args.settings.now.zones c.args.settings.now.moment.nanosecond _ c.read.result c.args.grid.now.injections_in_range c.read.ensures
