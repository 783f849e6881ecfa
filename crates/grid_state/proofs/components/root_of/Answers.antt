use Rattle.std.proofs.Common.{arith}
use Rattle.grid_state.proofs.Trees.{climbs_none, climbs_more}
use Rattle.grid_state.proofs.components.root_of.Goals as goal

pub climb-init : goal.climb-init
climb-init c = climbs_none c.args.up.now c.args.place c.requires.points

pub climb-preserved : goal.climb-preserved
climb-preserved c = climbs_more c.args.up.now c.climb.up c.args.place c.climb.at c.climb.invariant (omega arith) c.climb-test.true
