use Rattle.std.proofs.Common.{ℕ, List, ◌++◌, ◌∷◌, [], Option, take, ap, sym, ◌∙◌}
use Rattle.std.proofs.lemmas.List.{map_more}
use Rattle.fb_types.specs.declared.grid.Node.{Node}
use Rattle.glsk_keys.specs.Zones.{home_of, homes_of, zone_of_code}
use Rattle.glsk_keys.proofs.homes.homes.Goals as goal

pub loop-node-preserved : goal.loop-node-preserved
loop-node-preserved c =
    let node = c.node-item.result in
    let home = c.get.ensures ∙ (c.in_ok-table.ensures.each c.as_text.result.now ∙ (ap (zone_of_code c.args.zones.now) c.as_text.ensures.bytes ∙ ap (λ (n : Node). home_of c.args.zones.now n) c.node-item.is)) in
    let more = map_more (home_of c.args.zones.now) c.args.nodes.now c.loop-node.node-index node c.loop-node-test.true in
    c.in_ok-push.ensures.items ∙ (ap (λ (xs : List (Option ℕ)). xs ++ c.get.result ∷ []) c.loop-node.invariant ∙ (ap (λ (o : Option ℕ). homes_of c.args.zones.now (take c.loop-node.node-index c.args.nodes.now) ++ o ∷ []) home ∙ sym more))
