use Rattle.std.proofs.Common.{All, get_or, take, take_all, sym, subst}
use Rattle.std.specs.Str.{IsUtf8}
use Rattle.std.proofs.lemmas.List.{take_more}
use Rattle.std.proofs.lemmas.List.Elements.{All-push, All-same}
use Rattle.fb_types.specs.declared.crac.Contingency.{Contingency}
use Rattle.certificate_files.proofs.ids_are_texts.Goals as goal

pub loop-contingency-preserved : goal.loop-contingency-preserved
loop-contingency-preserved c =
    let P = λ (x : Contingency). IsUtf8 x.id in
    let here = c.contingency-item.result in
    let xs = c.as_slice-contingency-items.result.now in
    let i = c.loop-contingency.contingency-index in
    All-same P _ _ (take_more xs i here c.loop-contingency-test.true)
    (All-push P (take i xs) (get_or xs i here) c.loop-contingency.invariant
    (subst P c.contingency-item.is (subst IsUtf8 c.as_text.ensures.bytes c.as_text.utf8)))

pub returns : goal.returns
returns c =
    let P = λ (x : Contingency). IsUtf8 x.id in
    let xs = c.as_slice-contingency-items.result.now in
    subst (All P) c.as_slice-contingency-items.ensures.items
    (All-same P _ _ (sym (take_all c.loop-contingency.contingency-index xs c.loop-contingency-test.false))
    c.loop-contingency.invariant)
