use mir.Syntax.{w128}
use Rattle.std.proofs.Common.{ℤ, FitsSigned, to_z-of_z, ap, ◌∙◌}
use Rattle.whole_laws.specs.Sums.{at}
use Rattle.multiplier_search.specs.Corners.{most}
use Rattle.multiplier_search.proofs.CornerLaws.{turn-least}
use Rattle.multiplier_search.proofs.Turning.{refuted}
use Rattle.multiplier_search.proofs.corners.best_balance.Goals as goal

pub returns-else-most_at-room : goal.returns-else-most_at-room
returns-else-most_at-room c mu h =
    let bounds = c.args.bounds.now in
    let corners = c.args.corners.now in
    let turn_fits : FitsSigned w128 c.turn-mu.result = record { sfits = c.turn-mu.type_inv } in
    let most_fits : FitsSigned w128 c.most_at.result = record { sfits = c.most_at.type_inv } in
    refuted c.most_at.result c.args.room (most bounds (at corners) c.turn-mu.result) (most bounds (at corners) mu) most_fits c.ranges.room
    (c.most_at.ensures ∙ ap (λ (t : ℤ). most bounds (at corners) t) (to_z-of_z turn_fits))
    (turn-least bounds (at corners) c.turn-mu.result mu c.requires.is_box c.turn-mu.ensures) h c.if-most_at-room.false
