use Rattle.grid_state.proofs.Building.{couplers_below}
use Rattle.grid_state.proofs.build.node_classes.Goals as goal

pub number_classes-requires : goal.number_classes-requires
number_classes-requires c = rw c.deref.ensures.value (couplers_below c.args.grid.now c.args.out.now c.len.result c.in_ok-couplers.couplers.items c.len.ensures.count (rw c.as_slice.ensures.items at c.in_ok-couplers.ensures))
