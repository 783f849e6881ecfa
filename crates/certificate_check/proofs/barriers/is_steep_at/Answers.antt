use Rattle.std.proofs.Common.{pos, slice_index_or, ◌∙◌, FitsSigned, rules}
use Rattle.std.proofs.lemmas.Int.{to_z-of_z}
use mir.Syntax.{w128}
use Rattle.grid_state.specs.GridState.{susceptance_of}
use Rattle.grid_laplacian.specs.Laws.{laplacian_at}
use Rattle.certificate_check.proofs.SmallNumbers.{ranged_scaled, ranged_small, steep}
use Rattle.certificate_check.proofs.barriers.is_steep_at.Goals as goal

pub residual_of-requires-clause-p_small : goal.residual_of-requires-clause-p_small
residual_of-requires-clause-p_small c =
    ranged_small c.args.state.now c.sound.ensures c.args.v.now c.requires.room c.requires.ranged c.args.class
    c.requires.class c.requires.live_and_not_slack

pub residual_of-requires-clause-w_small : goal.residual_of-requires-clause-w_small
residual_of-requires-clause-w_small c =
    ranged_scaled c.args.state.now c.sound.ensures c.args.v.now c.requires.room c.requires.ranged c.args.class
    c.requires.class c.requires.live_and_not_slack

pub returns : goal.returns
returns c =
    let x = slice_index_or c.args.v.now c.args.class (pos 0) in
    let here : FitsSigned w128 (slice_index_or c.args.v.now c.args.class (pos 0)) = search rules in
    steep _ _ x (laplacian_at c.args.state.now c.args.v.now c.args.class) _
    (pos (susceptance_of c.args.state.now c.args.class)) c.is_at_least.result
    c.is_at_least.ensures
    (to_z-of_z w128 x here)
    (to_z-of_z w128 c.residual_of.result (record { sfits = c.residual_of.type_inv }) ∙ c.residual_of.ensures)
    (to_z-of_z w128 c.susceptance_at.result (record { sfits = c.susceptance_at.type_inv }) ∙ c.susceptance_at.ensures)
