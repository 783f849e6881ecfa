use Rattle.grid_laplacian.proofs.LawProofs.{existence_holds}
use Rattle.grid_laplacian.proofs.laws.existence.Goals as goal

pub returns : goal.returns
returns c = existence_holds _ c.sound.ensures
