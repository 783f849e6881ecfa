use Rattle.std.proofs.lemmas.Result.{IfOk-weaker}
use Rattle.angle_bounds.proofs.Made.{doubled_size}
use Rattle.angle_bounds.proofs.Doubled.{room_for_doubled}
use Rattle.angle_bounds.proofs.barriers.barrier_side.Goals as goal

pub returns : goal.returns
returns c = record {
  each_class = IfOk-weaker c.doubled_susceptances.result _ _ (λ p made. made.each_class) c.doubled_susceptances.ensures;
  size = IfOk-weaker c.doubled_susceptances.result _ _ (λ p made. doubled_size c.args.state.now p made) c.doubled_susceptances.ensures;
  room = IfOk-weaker c.doubled_susceptances.result _ _ (λ p made. room_for_doubled c.args.state.now p c.requires made) c.doubled_susceptances.ensures;
}
