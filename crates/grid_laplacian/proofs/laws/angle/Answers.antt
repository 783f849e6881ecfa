use Rattle.grid_laplacian.proofs.LawProofs.{angle_holds}
use Rattle.grid_laplacian.proofs.laws.angle.Goals as goal

pub returns : goal.returns
returns c = angle_holds _ c.sound.ensures
