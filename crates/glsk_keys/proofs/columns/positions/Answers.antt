use Rattle.std.proofs.Common.{◌≡◌, ◌++◌, ◌∷◌, [], ℤ, Bool, List, map, ap, sym, ◌∙◌, arith}
use mir.Syntax.{w64}
use mir.Val.{SFits}
use Rattle.std.specs.List.{range_with_len}
use Rattle.std.proofs.lemmas.Int.{to_z-of_z}
use Rattle.std.proofs.lemmas.List.FromFn.{map-range_with_len_more}
use Rattle.glsk_keys.specs.Measures.{net_of}
use Rattle.glsk_keys.specs.Columns.{position_of}
use Rattle.glsk_keys.specs.Facts.{facts_of}
use Rattle.glsk_keys.proofs.columns.positions.Goals as goal

pub loop-place-preserved : goal.loop-place-preserved
loop-place-preserved c =
    let facts = facts_of c.args.known.now in
    let f : SFits w64 c.net.result = record { sfits = c.net.type_inv } in
    let net : c.net.result ≡ position_of facts c.loop-place.place = c.net.ensures ∙ ap (λ (bs : List Bool). net_of bs c.args.known.now.nodes.now) (c.deref.ensures.value ∙ c.in_ok-chosen.ensures.members) in
    let more = map-range_with_len_more (position_of facts) 0 c.loop-place.place c.loop-place.place (omega arith) in
    simp to_z-of_z at c.in_ok-push.ensures.items
    ∙ (ap (λ (xs : List ℤ). xs ++ c.net.result ∷ []) c.loop-place.invariant
    ∙ (ap (λ (z : ℤ). map (position_of facts) (range_with_len 0 c.loop-place.place) ++ z ∷ []) net ∙ sym more))
