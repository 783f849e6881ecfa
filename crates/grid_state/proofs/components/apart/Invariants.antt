use Rattle.grid_state.specs.Unions.{ArePlacesApart}
use Rattle.grid_state.proofs.components.apart.Given as goal

abbrev pub invariant-loop-place : goal.invariant-loop-place
invariant-loop-place l = ArePlacesApart l.up.items l.place
