use mir.Syntax.{w128}
use Rattle.std.proofs.Common.{FitsSigned, to_z-of_z, ◌∙◌, arith, ◌^◌}
use Rattle.multiplier_search.proofs.Trying.{all_within, tried}
use Rattle.multiplier_search.proofs.tries.try_mults.Goals as goal

pub best_balance-requires-clause-corners_small : goal.best_balance-requires-clause-corners_small
best_balance-requires-clause-corners_small c = all_within (10 ^ 24) c.fill.new.corners c.fill.ensures.small

pub returns : goal.returns
returns c =
    let room_fits : FitsSigned w128 c.room_at.result = record { sfits = c.room_at.type_inv } in
    tried c.args.target.now c.args.rows.now c.args.mults.now c.args.bounds.now c.fill.new.corners _ c.best_balance.result (λ z l. c.fill.ensures.exact z (omega (arith, c.requires.long))) (to_z-of_z room_fits ∙ c.room_at.ensures) c.best_balance.ensures
