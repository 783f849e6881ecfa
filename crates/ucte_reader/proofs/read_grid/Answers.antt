use Rattle.ucte_reader.proofs.GridLaws.{fault_from, grid_from}
use Rattle.ucte_reader.proofs.read_grid.Goals as goal

pub returns-clause-fault : goal.returns-clause-fault
returns-clause-fault c = fault_from c.args.bytes.now c.read.result c.read.ensures

pub returns-clause-grid : goal.returns-clause-grid
returns-clause-grid c = grid_from c.args.bytes.now c.read.result c.read.ensures
