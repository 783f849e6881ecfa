use Rattle.grid_laplacian.proofs.LawProofs.{maximum_holds}
use Rattle.grid_laplacian.proofs.laws.maximum.Goals as goal

pub returns : goal.returns
returns c = maximum_holds _ c.sound.ensures
