use Rattle.std.proofs.Common.{◌<◌, ◌≤◌, List, length, get_or, refl, sym, ap, subst, ◌∙◌}
use Rattle.std.proofs.lemmas.Option.{slice_get_read}
use Rattle.fb_types.specs.declared.crac.Element.{Element}
use Rattle.fb_certificate.proofs.RunLaws.{rows_more, rows_done}
use Rattle.fb_certificate.proofs.run.run_rows.Goals as goal

pub loop-place-preserved : goal.loop-place-preserved
loop-place-preserved c =
    let inputs = c.args.inputs.now in
    let k = c.loop-place.place in
    let e = c.element-item.result in
    let same = c.as_slice-element-items.ensures.items in
    rows_more inputs k e c.loop-place.rows.items c.add_row.new.rows.items c.add_row-in-loop-place.new.rows.items
    (slice_get_read inputs.crac.elements (length inputs.crac.elements) k e refl (subst (λ (es : List Element). k < length es) same c.loop-place-test.true)
    (c.element-item.is ∙ ap (λ (es : List Element). get_or es k e) same))
    c.loop-place.invariant c.in_ok-add_row.ensures c.in_ok-add_row-2.ensures

pub returns : goal.returns
returns c =
    rows_done c.args.inputs.now c.loop-place.place c.loop-place.rows.items
    (subst (λ (es : List Element). length es ≤ c.loop-place.place) c.as_slice-element-items.ensures.items c.loop-place-test.false) c.loop-place.invariant
