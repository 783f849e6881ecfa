use Rattle.std.proofs.Common.{rules, pos, slice_index_or, FitsSigned}
use Rattle.std.proofs.lemmas.Int.{to_z-of_z}
use mir.Syntax.{w128}
use Rattle.grid_laplacian.proofs.PartialSums.{row_room}
use Rattle.grid_laplacian.proofs.residual.residual_of.Goals as goal

pub less_drops-requires : goal.less_drops-requires
less_drops-requires c =
    let start : FitsSigned w128 (slice_index_or c.args.p.now c.args.class (pos 0)) = search rules in
    let here : FitsSigned w128 (slice_index_or c.args.w.now c.args.class (pos 0)) = search rules in
    let r = c.requires in
    simp to_z-of_z (rw c.row.ensures
    (row_room c.args.state.now c.args.p.now c.args.w.now c.args.class c.sound.ensures r.class r.live_and_not_slack r.p_length r.w_length r.p_small r.w_small))
