use Rattle.grid_state.proofs.Classes.{apart_more}
use Rattle.grid_state.proofs.components.apart.Goals as goal

pub loop-place-preserved : goal.loop-place-preserved
loop-place-preserved c = rw c.in_ok-push.ensures.items (apart_more c.loop-place.up.items c.loop-place.place c.loop-place.invariant)
