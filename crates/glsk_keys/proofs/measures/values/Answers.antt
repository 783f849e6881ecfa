use Rattle.std.proofs.Common.{◌≡◌, ◌<◌, ◌≤◌, ◌++◌, ◌∷◌, [], List, ℤ, false, length, take, get_or, ap, sym, ◌∙◌, arith}
use mir.Syntax.{w128}
use mir.Val.{SFits}
use Rattle.std.proofs.lemmas.Int.{to_z-of_z}
use Rattle.glsk_keys.specs.Measures.{chosen_value, values_of}
use Rattle.std.proofs.lemmas.List.{take_all}
use Rattle.glsk_keys.proofs.SizeLaws.{values_small, values_weights}
use Rattle.glsk_keys.proofs.MeasureLaws.{values_of-more}
use Rattle.glsk_keys.proofs.measures.values.Goals as goal

at_end : (c : goal.After-loop-place) → c.loop-place.values.items ≡ values_of c.args.measure c.args.chosen.now c.args.nodes.now
at_end c =
    let n : length c.args.nodes.now ≤ c.loop-place.place = omega arith in
    let m : length c.args.chosen.now ≤ c.loop-place.place = omega arith in
    c.loop-place.invariant ∙ (ap (λ bs. values_of c.args.measure bs (take c.loop-place.place c.args.nodes.now)) (take_all _ _ m) ∙ ap (λ ns. values_of c.args.measure c.args.chosen.now ns) (take_all _ _ n))

pub loop-place-preserved : goal.loop-place-preserved
loop-place-preserved c =
    let i = c.loop-place.place in
    let node = c.index-nodes-place.result in
    let f : SFits w128 c.chosen_value.result = record { sfits = c.chosen_value.type_inv } in
    let l : i < length c.args.chosen.now = omega arith in
    let v : c.chosen_value.result ≡ chosen_value c.args.measure (get_or c.args.chosen.now i false) (get_or c.args.nodes.now i node) =
    c.chosen_value.ensures ∙ ap (λ n. chosen_value c.args.measure (get_or c.args.chosen.now i false) n) c.index-nodes-place.is in
    let more = values_of-more c.args.measure c.args.chosen.now c.args.nodes.now i false node l c.loop-place-test.true in
    simp to_z-of_z at c.in_ok-push.ensures.items ∙ (ap (λ (xs : List ℤ). xs ++ c.chosen_value.result ∷ []) c.loop-place.invariant ∙ (ap (λ (z : ℤ). values_of c.args.measure (take i c.args.chosen.now) (take i c.args.nodes.now) ++ z ∷ []) v ∙ sym more))

pub returns-clause-small : goal.returns-clause-small
returns-clause-small c =
    values_small c.args.measure c.args.chosen.now c.args.nodes.now c.loop-place.values.items (at_end c) c.requires.each c.requires.few c.requires.in_range

pub returns-clause-none_below : goal.returns-clause-none_below
returns-clause-none_below c = values_weights c.args.measure c.args.chosen.now c.args.nodes.now c.loop-place.values.items (at_end c)
