use Rattle.std.proofs.Common.{◌^◌, ℤ, pos, List, subst, sym, ◌∙◌, arith}
use Rattle.std.specs.Prelude.{◌≤ℤ◌}
use Rattle.std.proofs.lemmas.Int.{ints}
use Rattle.glsk_keys.specs.Measures.{total_of}
use Rattle.glsk_keys.proofs.SizeLaws.{sizes_high}
use Rattle.glsk_keys.proofs.columns.default_column.Goals as goal

pub default_blocks-requires-clause-total : goal.default_blocks-requires-clause-total
default_blocks-requires-clause-total c =
    let known = c.args.known.now in
    let high = sizes_high c.deref.result.now known.nodes.now in
    let few = known.injections_in_range.small in
    subst (λ (vs : List ℤ). total_of vs ≤ℤ pos (10 ^ 12)) (sym (c.deref-2.ensures.value ∙ c.in_ok-sizes.ensures.values)) (omega (arith, ints, high, few))
