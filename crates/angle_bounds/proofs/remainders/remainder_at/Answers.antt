use Rattle.std.proofs.Common.{sym, ◌∙◌}
use Rattle.grid_laplacian.specs.Sizes.{size_of}
use Rattle.grid_laplacian.proofs.SizeCondition.{right_side_small}
use Rattle.angle_bounds.proofs.Guessed.{guess_small}
use Rattle.angle_bounds.proofs.remainders.remainder_at.Goals as goal

pub residual_of-requires-clause-p_small : goal.residual_of-requires-clause-p_small
residual_of-requires-clause-p_small c =
    right_side_small c.args.state.now c.sound.ensures c.args.p.now c.requires.room c.args.class c.requires.class (sym c.is_free.ensures ∙ c.if-is_free.true)

pub residual_of-requires-clause-w_small : goal.residual_of-requires-clause-w_small
residual_of-requires-clause-w_small c =
    guess_small c.args.state.now c.sound.ensures (size_of c.args.p.now) c.args.w.now c.requires.room c.requires.guess c.args.class c.requires.class (sym c.is_free.ensures ∙ c.if-is_free.true)
