use Rattle.std.proofs.Common.{ℕ, ◌+◌, ◌<◌, ◌≤◌, ◌∷◌, [], ◌++◌, length, map, take, sym, ap, ◌∙◌, arith, append_assoc}
use Rattle.std.specs.List.{enumerate_from}
use Rattle.fb_types.specs.declared.keys.Block.{Block}
use Rattle.certificate_text.proofs.Appending.{item_at, mapped_more, numbered_more, numbered_done}
use Rattle.certificate_text.proofs.columns.put_zone_places.Goals as goal

pub loop-k-preserved : goal.loop-k-preserved
loop-k-preserved c =
    let zone = c.args.zone in
    let blocks = c.args.column.now.blocks in
    let k = c.loop-k.k in
    let place : ℕ × Block → ℕ × ℕ = λ b. (zone, b.0) in
    let within : k < length blocks = omega (arith, c.loop-k-test.true, ap length c.as_slice-items.ensures.items) in
    let block = item_at blocks k within in
    c.in_ok-push.ensures.items
    ∙ ap (λ ps. ps ++ (zone, k + 1) ∷ []) c.loop-k.invariant
    ∙ append_assoc c.args.places.now.items (map place (take k (enumerate_from 1 blocks))) ((zone, k + 1) ∷ [])
    ∙ ap (λ ps. c.args.places.now.items ++ ps) (sym (mapped_more place (enumerate_from 1 blocks) k (k + 1, block.0) (numbered_more 1 blocks k (k + 1) block.0 within (omega arith) block.1)))

pub returns : goal.returns
returns c =
    let blocks = c.args.column.now.blocks in
    let past : length blocks ≤ c.loop-k.k = omega (arith, c.loop-k-test.false, ap length c.as_slice-items.ensures.items) in
    c.loop-k.invariant ∙ ap (λ bs. c.args.places.now.items ++ map (λ (b : ℕ × Block). (c.args.zone, b.0)) bs) (numbered_done 1 blocks c.loop-k.k past)
