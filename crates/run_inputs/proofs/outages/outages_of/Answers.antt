use Rattle.std.proofs.Common.{◌≡◌, ◌∙◌, ℕ, List, length, filter, ap, ap₂, arith}
use Rattle.std.specs.List.{range_with_len}
use Rattle.std.proofs.lemmas.Result.{IfOk-weaker}
use Rattle.fb_types.specs.declared.crac.Contingency.{Contingency}
use Rattle.fb_types.specs.declared.crac.Element.{Element}
use Rattle.fb_certificate.specs.CracRows.{outages_of}
use Rattle.run_inputs.specs.Marks.{is_marked, named_of}
use Rattle.run_inputs.proofs.MarkLaws.{sized, marked_are_named}
use Rattle.run_inputs.proofs.outages.outages_of.Goals as goal

pub marked_places-requires : goal.marked_places-requires
marked_places-requires c =
    let size = sized (length c.as_slice.result.now) c.as_slice-elements.result.now c.deref.result.now (c.deref.ensures.value ∙ c.in_ok-marks.ensures) in
    let same = ap length c.as_slice.ensures.items in
    let few = c.requires.few in
    omega arith

pub returns : goal.returns
returns c =
    let named : c.deref.result.now ≡ named_of (length c.args.crac.now.contingencies) c.args.crac.now.elements =
    c.deref.ensures.value ∙ c.in_ok-marks.ensures ∙ ap₂ (λ (cs : List Contingency) (es : List Element). named_of (length cs) es) c.as_slice.ensures.items c.as_slice-elements.ensures.items in
    record {
      outages = IfOk-weaker c.marked_places.result (λ (places : List ℕ). places ≡ filter (is_marked c.deref.result.now) (range_with_len 0 (length c.deref.result.now))) (λ (places : List ℕ). places ≡ outages_of c.args.crac.now)
          (λ places e. e ∙ marked_are_named c.args.crac.now c.deref.result.now named) c.marked_places.ensures;
    }
