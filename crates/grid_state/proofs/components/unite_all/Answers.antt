use Rattle.grid_state.proofs.Trees.{trees_more}
use Rattle.grid_state.proofs.components.unite_all.Goals as goal

pub loop-link-preserved : goal.loop-link-preserved
loop-link-preserved c = trees_more c.args.links.now c.loop-link.up c.unite.new.up c.loop-link.link-index (record { one = 0; other = 0; b = 0 }) c.loop-link-test.true c.loop-link.invariant c.unite.ensures
