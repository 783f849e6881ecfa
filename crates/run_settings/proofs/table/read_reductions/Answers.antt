use Rattle.run_settings.proofs.RecordLaws.{answers_fault}
use Rattle.run_settings.proofs.ReductionLaws.{reductions_hold}
use Rattle.run_settings.proofs.table.read_reductions.Goals as goal

pub returns-clause-fault : goal.returns-clause-fault
returns-clause-fault c = answers_fault c.args.crac.now.elements c.args.bytes.now c.read.result c.read.ensures

pub returns-clause-laws : goal.returns-clause-laws
returns-clause-laws c = reductions_hold c.args.crac.now.elements c.args.bytes.now c.read.result c.read.ensures
