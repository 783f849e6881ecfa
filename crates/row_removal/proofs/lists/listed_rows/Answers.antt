use Rattle.std.proofs.Common.{◌≡◌, ◌+◌, sym, ap, ◌∙◌, map, ◌++◌, ◌∷◌, []}
use Rattle.std.specs.Prelude.{true, false, Some, slice_get}
use Rattle.std.proofs.lemmas.Option.{slice_get-get_or}
use Rattle.row_removal.specs.Kinds.{kind_of}
use Rattle.row_removal.specs.Renumbered.{numbered_half}
use Rattle.row_removal.proofs.Listing.{skips_row, takes_row, takes_half}
use Rattle.row_removal.proofs.lists.listed_rows.Goals as goal

pub loop-place-preserved-then-not-holds : goal.loop-place-preserved-then-not-holds
loop-place-preserved-then-not-holds c =
    let row = c.index-rows-place.result in
    let here : slice_get c.args.rows.now c.loop-place.place ≡ Some row = slice_get-get_or c.args.rows.now c.loop-place.place row c.loop-place-test.true ∙ ap Some (sym c.index-rows-place.is) in
    let skipped : (kind_of c.args.list).holds row.class ≡ false = sym c.holds.ensures ∙ c.if-not-holds.true in
    (c.loop-place.invariant.0 ∙ sym (skips_row (kind_of c.args.list) c.args.rows.now c.loop-place.place row here skipped), c.loop-place.invariant.1)

pub loop-place-preserved : goal.loop-place-preserved
loop-place-preserved c =
    let kind = kind_of c.args.list in
    let rows = c.args.rows.now in
    let row = c.index-rows-place.result in
    let here : slice_get rows c.loop-place.place ≡ Some row = slice_get-get_or rows c.loop-place.place row c.loop-place-test.true ∙ ap Some (sym c.index-rows-place.is) in
    let taken : kind.holds row.class ≡ true = sym c.holds.ensures ∙ c.if-not-holds.false in
    let numbers : c.push-in-loop-place.new.self.items ≡ c.loop-place.numbers.items ++ (c.loop-place.place + 1) ∷ [] = c.in_ok-push-2.ensures.items in
    let halves : c.push.new.self.items ≡ c.loop-place.halves.items ++ c.in_ok-half.half ∷ [] = c.in_ok-push.ensures.items in (
      numbers ∙ ap (λ xs. xs ++ (c.loop-place.place + 1) ∷ []) c.loop-place.invariant.0 ∙ sym (takes_row kind rows c.loop-place.place row here taken),
      halves ∙ takes_half kind rows c.loop-place.place row c.in_ok-half.half c.loop-place.halves.items c.loop-place.numbers.items here c.in_ok-half.ensures c.loop-place.invariant.1 ∙ ap (map (numbered_half kind rows)) (sym numbers),
    )
