use Rattle.grid_state.specs.Marks.{NoneBefore}
use Rattle.grid_state.proofs.split.first_stranded.Given as goal

abbrev pub invariant-loop-place : goal.invariant-loop-place
invariant-loop-place l = NoneBefore l.state l.keyed l.nodes l.place
