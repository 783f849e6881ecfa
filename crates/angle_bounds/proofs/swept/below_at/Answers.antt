use Rattle.std.proofs.Common.{rules, ◌^◌, pos, slice_index_or, sym, ◌∙◌, FitsSigned, arith}
use Rattle.std.proofs.lemmas.Int.{to_z-of_z}
use Rattle.std.proofs.lemmas.List.Elements.{All-get_or}
use mir.Syntax.{w128}
use Rattle.whole_laws.specs.Sums.{IsWithin}
use Rattle.grid_laplacian.proofs.SizeCondition.{right_side_small}
use Rattle.angle_bounds.proofs.swept.below_at.Goals as goal

pub below_zero-requires : goal.below_zero-requires
below_zero-requires c =
    let fits : FitsSigned w128 (slice_index_or c.args.p.now c.args.class (pos 0)) = search rules in
    let each = right_side_small c.args.state.now c.sound.ensures c.args.p.now c.requires.room c.args.class c.requires.class (sym c.is_free.ensures ∙ c.if-is_free.true) in
    let same = c.requires.each_class in
    let h = c.requires.class in
    simp to_z-of_z (All-get_or (λ z. IsWithin (2 ^ 121) z) c.args.p.now c.args.class (pos 0) (omega arith) each)
