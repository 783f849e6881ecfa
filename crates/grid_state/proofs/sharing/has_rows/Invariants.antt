use Rattle.grid_state.specs.Changes.{with_changes, HasRowsOf}
use Rattle.grid_state.proofs.sharing.has_rows.Given as goal

abbrev pub invariant-loop-class : goal.invariant-loop-class
invariant-loop-class l = HasRowsOf (with_changes l.changes l.whole) l.state l.class
