use Rattle.grid_laplacian.proofs.LawProofs.{uniqueness_holds}
use Rattle.grid_laplacian.proofs.laws.uniqueness.Goals as goal

pub returns : goal.returns
returns c = uniqueness_holds _ c.sound.ensures
