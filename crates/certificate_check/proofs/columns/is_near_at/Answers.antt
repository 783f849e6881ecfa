use Rattle.certificate_check.proofs.SmallNumbers.{bounded_small}
use Rattle.certificate_check.proofs.columns.is_near_at.Goals as goal

pub residual_of-requires-clause-w_small : goal.residual_of-requires-clause-w_small
residual_of-requires-clause-w_small c =
    bounded_small c.args.state.now c.sound.ensures c.args.w.now c.requires.room c.requires.bounded c.args.class
    c.requires.class c.requires.live_and_not_slack
