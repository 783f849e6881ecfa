use Rattle.grid_state.specs.GridState.{classes_of, row_of}
use Rattle.grid_laplacian.specs.Sizes.{least_over}
use Rattle.grid_laplacian.proofs.SizeLoops.{least_positive, least_below-small}
use Rattle.grid_laplacian.proofs.sizes.least_susceptance.Goals as goal

pub returns-clause-some : goal.returns-clause-some
returns-clause-some c = least_positive c.args.state.now c.sound.ensures

pub returns-clause-small : goal.returns-clause-small
returns-clause-small c = least_below-small (classes_of c.args.state.now) (λ i. least_over (row_of c.args.state.now i))
