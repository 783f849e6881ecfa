use Rattle.std.proofs.Common.{ap, length, arith}
use Rattle.grid_state.proofs.Changed.{few_edges_in}
use Rattle.grid_state.proofs.types.State.degree.Goals as goal

pub overflow_cast-result : goal.overflow_cast-result
overflow_cast-result c =
    let few = few_edges_in c.args.self.now c.sound.ensures c.args.class c.requires in let same = ap length c.row.ensures in omega arith
