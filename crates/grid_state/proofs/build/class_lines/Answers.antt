use Rattle.grid_state.proofs.Building.{node_lines_below}
use Rattle.grid_state.proofs.build.class_lines.Goals as goal

pub class_links-requires : goal.class_links-requires
class_links-requires c = rw c.deref.ensures.value (node_lines_below c.args.grid.now c.args.out.now c.args.class_of.now c.in_ok-lines.lines.items c.requires.each_node (rw c.as_slice.ensures.items at c.in_ok-lines.ensures))
