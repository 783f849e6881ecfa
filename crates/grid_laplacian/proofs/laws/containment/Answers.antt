use Rattle.grid_laplacian.proofs.Enclosure.{containment_holds}
use Rattle.grid_laplacian.proofs.laws.containment.Goals as goal

pub returns : goal.returns
returns c = containment_holds _ c.sound.ensures
