use Rattle.exact_flows.proofs.Assembly.{superposition}
use Rattle.exact_flows.proofs.superposition.Goals as goal

pub returns : goal.returns
returns c = superposition _ c.sound.ensures c.args._grid.now
