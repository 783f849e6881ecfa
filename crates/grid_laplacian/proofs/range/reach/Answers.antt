use Rattle.grid_state.specs.GridState.{live_count}
use Rattle.grid_laplacian.specs.Sizes.{total_susceptance_of, least_susceptance_of}
use Rattle.grid_laplacian.proofs.Least.{least_susceptance_is}
use Rattle.grid_laplacian.proofs.SizeLoops.{reach_value}
use Rattle.grid_laplacian.proofs.range.reach.Goals as goal

pub returns-clause-value : goal.returns-clause-value
returns-clause-value c =
    let s = c.args.state.now in
    rw (c.from.ensures, c.live_classes.ensures.value, c.total_susceptance.ensures.value, c.from-least.ensures, c.least_susceptance.ensures.value)
    (reach_value (live_count s) (total_susceptance_of s) (least_susceptance_of s) c.live_classes.ensures.few c.total_susceptance.ensures.small c.least_susceptance.ensures.small)

pub returns-clause-least : goal.returns-clause-least
returns-clause-least c = least_susceptance_is c.args.state.now c.sound.ensures
