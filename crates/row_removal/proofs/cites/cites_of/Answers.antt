use Rattle.std.proofs.Common.{◌≡◌, sym, ap, ◌∙◌, ◌++◌, ◌∷◌, []}
use Rattle.std.specs.Prelude.{Some, slice_get}
use Rattle.std.proofs.lemmas.List.{get_or_default}
use Rattle.std.proofs.lemmas.Option.{slice_get-get_or}
use Rattle.fb_types.specs.declared.rows.Fate.TheVariants.{Kept, Removed}
use Rattle.row_removal.specs.Renumbered.{cites_below}
use Rattle.row_removal.proofs.Citing.{keeps_more, removes_more}
use Rattle.row_removal.proofs.cites.cites_of.Goals as goal

pub loop-k-preserved-in_default : goal.loop-k-preserved-in_default
loop-k-preserved-in_default c =
    let fates = c.args.fates.now in
    let here : slice_get fates c.loop-k.k ≡ Some Kept = slice_get-get_or fates c.loop-k.k Kept c.loop-k-test.true ∙ ap Some (get_or_default fates c.loop-k.k Kept c.index-fates-k.result c.loop-k-test.true ∙ sym c.index-fates-k.is ∙ c.in_default.is) in
    c.loop-k.invariant ∙ sym (keeps_more c.args.numbers.now fates c.loop-k.k here)

pub loop-k-preserved : goal.loop-k-preserved
loop-k-preserved c =
    let fates = c.args.fates.now in
    let here : slice_get fates c.loop-k.k ≡ Some (Removed c.in-Removed.by) = slice_get-get_or fates c.loop-k.k Kept c.loop-k-test.true ∙ ap Some (get_or_default fates c.loop-k.k Kept c.index-fates-k.result c.loop-k-test.true ∙ sym c.index-fates-k.is ∙ c.in-Removed.is) in
    let pushed : c.push.new.self.items ≡ c.loop-k.cites.items ++ c.in_ok-cite.cite ∷ [] = c.in_ok-push.ensures.items in
    pushed ∙ ap (λ xs. xs ++ c.in_ok-cite.cite ∷ []) c.loop-k.invariant ∙ ap (λ x. cites_below c.args.numbers.now fates c.loop-k.k ++ x ∷ []) c.in_ok-cite.ensures ∙ sym (removes_more c.args.numbers.now fates c.loop-k.k c.in-Removed.by here)
