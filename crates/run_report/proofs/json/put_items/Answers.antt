use Rattle.std.proofs.Common.{◌≡◌, ap, ◌++◌, [], ◌∷◌, get_or, ◌∙◌, string_bytes}
use Rattle.run_report.proofs.Texts.{joined_next}
use Rattle.run_report.proofs.json.put_items.Goals as goal

pub loop-place-preserved : goal.loop-place-preserved
loop-place-preserved c =
    let items = c.args.items.now in
    let k = c.loop-place.place in
    let d = c.index-items-place.result in
    let was = string_bytes c.loop-place.text in
    let item : c.as_text.result.now ≡ get_or items k d = c.as_text.ensures.bytes ∙ c.index-items-place.is in
    joined_next items k d (string_bytes c.args.text.now) was (string_bytes c.put_item.new.text) c.loop-place-test.true c.loop-place.invariant
    (λ first. c.in_ok-put_item.ensures.first first ∙ ap (λ t. was ++ t) item)
    (λ more. c.in_ok-put_item.ensures.more more ∙ ap (λ t. (was ++ 44 ∷ []) ++ t) item)
