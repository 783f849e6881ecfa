use Rattle.grid_state.specs.Changes.{with_changes, HasCarriesOf}
use Rattle.grid_state.proofs.sharing.has_carries.Given as goal

abbrev pub invariant-loop-branch : goal.invariant-loop-branch
invariant-loop-branch l = HasCarriesOf (with_changes l.changes l.whole) l.state l.branch
