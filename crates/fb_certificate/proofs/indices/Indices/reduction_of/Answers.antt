use Rattle.std.proofs.Common.{ℕ, ◌*◌, ◌<◌, List, Option, None, length, map, get_or, sym, ap, subst, ◌∙◌, arith}
use Rattle.fb_certificate.proofs.IndexLaws.{key_below, entry, table_long, reduction_none, reduction_within, reduction_some}
use Rattle.fb_certificate.specs.RowIndices.{key_of, reduction_key}
use Rattle.run_settings.specs.declared.reduction.Reduction.{Reduction}
use Rattle.fb_certificate.proofs.indices.Indices.reduction_of.Goals as goal

pub index-requires : goal.index-requires
index-requires c =
    let inputs = c.args.inputs.now in
    let count = 2 * length inputs.crac.elements in
    let below = key_below c.args.element (length inputs.crac.elements) c.args.opposite c.requires.element in
    let long = table_long count (map reduction_key inputs.reductions) c.args.self.now.reductions.items c.requires.are.reductions in
    omega (arith, c.key_of.ensures, below, long)

pub returns-in_err-place : goal.returns-in_err-place
returns-in_err-place c =
    let inputs = c.args.inputs.now in
    let key = key_of c.args.element c.args.opposite in
    c.from_residual.ensures
    ∙ reduction_none inputs.reductions c.args.element c.args.opposite
    (entry (2 * length inputs.crac.elements) (map reduction_key inputs.reductions) c.args.self.now.reductions.items key c.index.result.now c.requires.are.reductions
    (key_below c.args.element (length inputs.crac.elements) c.args.opposite c.requires.element)
    (c.index.ensures ∙ ap (λ (k : ℕ). get_or c.args.self.now.reductions.items k c.index.result.now) c.key_of.ensures)
    ∙ c.in_err-place.was)

pub bounds-as_slice-place : goal.bounds-as_slice-place
bounds-as_slice-place c =
    let inputs = c.args.inputs.now in
    let key = key_of c.args.element c.args.opposite in
    subst (λ (rs : List Reduction). c.in_ok-place.place < length rs) (sym c.as_slice.ensures.items)
    (reduction_within inputs.reductions c.args.element c.args.opposite c.in_ok-place.place
    (entry (2 * length inputs.crac.elements) (map reduction_key inputs.reductions) c.args.self.now.reductions.items key c.index.result.now c.requires.are.reductions
    (key_below c.args.element (length inputs.crac.elements) c.args.opposite c.requires.element)
    (c.index.ensures ∙ ap (λ (k : ℕ). get_or c.args.self.now.reductions.items k c.index.result.now) c.key_of.ensures)
    ∙ c.in_ok-place.was))

pub offset_bounds-as_slice-place : goal.offset_bounds-as_slice-place
offset_bounds-as_slice-place c = let below = bounds-as_slice-place c in let small = c.as_slice.type_inv.1 in omega (arith, below, small)

pub returns : goal.returns
returns c =
    let inputs = c.args.inputs.now in
    let key = key_of c.args.element c.args.opposite in
    reduction_some inputs.reductions c.args.element c.args.opposite c.in_ok-place.place _ c.as_slice.result.now c.as_slice.ensures.items
    (entry (2 * length inputs.crac.elements) (map reduction_key inputs.reductions) c.args.self.now.reductions.items key c.index.result.now c.requires.are.reductions
    (key_below c.args.element (length inputs.crac.elements) c.args.opposite c.requires.element)
    (c.index.ensures ∙ ap (λ (k : ℕ). get_or c.args.self.now.reductions.items k c.index.result.now) c.key_of.ensures)
    ∙ c.in_ok-place.was)
