use Rattle.std.proofs.Common.{arith}
use Rattle.grid_state.proofs.Trees.{unites_under_one, unites_under_other}
use Rattle.grid_state.proofs.components.unite.Goals as goal

pub returns-then-one-other : goal.returns-then-one-other
returns-then-one-other c =
    unites_under_one c.args.up.now c.root_of-one.new.up c.root_of-other.new.up c.args.link.now c.root_of-one.result c.root_of-other.result c.root_of-one.ensures.climbs c.root_of-other.ensures.climbs
    c.root_of-other.ensures.root (omega arith) c.if-one-other.true

pub returns-else-one-other : goal.returns-else-one-other
returns-else-one-other c =
    unites_under_other c.args.up.now c.root_of-one.new.up c.root_of-other.new.up c.args.link.now c.root_of-one.result c.root_of-other.result c.root_of-one.ensures.climbs c.root_of-other.ensures.climbs
    c.root_of-one.ensures.root (omega arith) c.if-one-other.false
