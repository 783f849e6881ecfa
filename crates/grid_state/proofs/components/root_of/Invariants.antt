use Rattle.grid_state.specs.Unions.{Climbs}
use Rattle.grid_state.proofs.components.root_of.Given as goal

abbrev pub invariant-climb : goal.invariant-climb
invariant-climb l = Climbs l.fn.up l.up l.place l.at

abbrev pub decreases-climb : goal.decreases-climb
decreases-climb l = l.at
