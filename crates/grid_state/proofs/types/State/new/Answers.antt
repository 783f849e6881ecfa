use Rattle.grid_state.proofs.Changed.{unchanged}
use Rattle.grid_state.proofs.types.State.new.Goals as goal

pub invariant_of-result : goal.invariant_of-result
invariant_of-result c = rw (c.none-changes.ensures, c.in_ok-whole.ensures.ok, unchanged c.args.whole) c.sound.ensures

pub returns : goal.returns
returns c = rw (c.none-changes.ensures, c.in_ok-whole.ensures.ok) (unchanged c.args.whole)
