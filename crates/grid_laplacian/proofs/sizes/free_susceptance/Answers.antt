use Rattle.grid_laplacian.proofs.SizeLoops.{free_small}
use Rattle.grid_laplacian.proofs.sizes.free_susceptance.Goals as goal

pub returns-then-is_free-clause-small : goal.returns-then-is_free-clause-small
returns-then-is_free-clause-small c = free_small c.args.state.now c.sound.ensures c.args.class c.requires
