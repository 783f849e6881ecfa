use Rattle.grid_laplacian.proofs.LawProofs.{cut_holds}
use Rattle.grid_laplacian.proofs.laws.cut.Goals as goal

pub returns : goal.returns
returns c = cut_holds _ c.sound.ensures
