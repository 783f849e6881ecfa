use Rattle.std.proofs.Common.{ℕ, List, Option, take, get_or, Some, set, sym, ap, ◌∙◌, rules, arith}
use Rattle.std.specs.Prelude.{is_some}
use Rattle.std.proofs.lemmas.List.{take_more, length-take-le}
use Rattle.place_tables.proofs.PlaceLaws.{none_yet, past_count, known_already, new_place}
use Rattle.place_tables.specs.Places.{first_places}
use Rattle.place_tables.proofs.first_places.Goals.{then-number-count-via-then-number-count, then-number-count-via-else-number-count+then-is_some}
use Rattle.place_tables.proofs.first_places.Goals as goal

pub loop-place-init : goal.loop-place-init
loop-place-init c = none_yet c.args.count c.in_ok-places.places.items (c.in_ok-places.ensures.items_if_clones_equal (search rules))

pub loop-place-preserved-then-number-count : goal.loop-place-preserved-then-number-count
loop-place-preserved-then-number-count c =
    let count = c.args.count in
    let numbers = c.args.numbers.now in
    let k = c.loop-place.place in
    let x = get_or numbers k 0 in
    let more = ap (first_places count) (sym (take_more numbers k 0 c.loop-place-test.true)) in
    elim c.then-number-count.branch [
      | then-number-count-via-then-number-count w ↦ c.loop-place.invariant ∙ (past_count count (take k numbers) x (omega (arith, w.if-number-count.true)) ∙ more)
      | then-number-count-via-else-number-count+then-is_some w ↦
          let d = w.index.result.now in
          c.loop-place.invariant
          ∙ (known_already count (take k numbers) x d (omega (arith, w.if-number-count.false))
          (ap (λ (ps : List (Option ℕ)). is_some (get_or ps x d)) (sym c.loop-place.invariant) ∙ (sym (ap is_some w.index.ensures) ∙ (sym w.is_some.ensures ∙ w.if-is_some.true)))
          ∙ more)
    ]

pub loop-place-preserved : goal.loop-place-preserved
loop-place-preserved c =
    let count = c.args.count in
    let numbers = c.args.numbers.now in
    let k = c.loop-place.place in
    let x = get_or numbers k 0 in
    let d = c.index.result.now in
    ap (λ (ps : List (Option ℕ)). set ps x (Some k)) c.loop-place.invariant
    ∙ (ap (λ (n : ℕ). set (first_places count (take k numbers)) x (Some n)) (sym (length-take-le k numbers c.loop-place.auto.place-end))
    ∙ (new_place count (take k numbers) x d (omega (arith, c.if-number-count.false))
    (ap (λ (ps : List (Option ℕ)). is_some (get_or ps x d)) (sym c.loop-place.invariant) ∙ (sym (ap is_some c.index.ensures) ∙ (sym c.is_some.ensures ∙ c.if-is_some.false)))
    ∙ ap (first_places count) (sym (take_more numbers k 0 c.loop-place-test.true))))
