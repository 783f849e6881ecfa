use Rattle.std.proofs.Common.{ℕ, List, ap, ◌∙◌}
use Rattle.name_tables.specs.Tables.{with_entry}
use Rattle.fb_types.specs.declared.crac.Element.{Element}
use Rattle.run_settings.specs.Reductions.{element_ids}
use Rattle.run_settings.proofs.PlaceLaws.{noted_place}
use Rattle.run_settings.proofs.elements.places_of.Goals as goal

pub loop-place-preserved : goal.loop-place-preserved
loop-place-preserved c =
    let elements = c.args.elements.now in
    let place = c.loop-place.place in
    let places = c.loop-place.places in
    let element : Element = c.index-elements-place.result in
    let noted = c.in_ok-note.ensures ∙ ap (λ (name : List ℕ). with_entry places name c.in-Ok.number) (c.in_ok-id.ensures.ok ∙ c.as_text.ensures.bytes)
    ∙ ap (λ (n : ℕ). with_entry places element.id n) c.in-Ok.ensures.1 in
    noted_place (λ (e : Element). e.id) elements place element places c.note.new.self (element_ids elements) c.loop-place-test.true c.index-elements-place.is noted
    c.loop-place.invariant
