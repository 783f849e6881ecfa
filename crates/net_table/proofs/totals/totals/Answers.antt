use Rattle.std.proofs.Common.{◌≡◌, ◌^◌, ◌<◌, length, take, get_or, ◌++◌, ◌∷◌, [], sym, ap, ◌∙◌, subst, rules, FitsSigned, to_z-of_z}
use mir.Syntax.{w64}
use Rattle.std.proofs.lemmas.List.{take_more}
use Rattle.net_table.specs.NetTexts.{nets_of}
use Rattle.net_table.specs.Totals.{AreWithin, with_amount}
use Rattle.net_table.proofs.Sizes.{nets_within}
use Rattle.net_table.proofs.Gathered.{nets_more}
use Rattle.net_table.proofs.totals.totals.Goals as goal

pub add-requires-clause-totals : goal.add-requires-clause-totals
add-requires-clause-totals c = subst (AreWithin (10 ^ 12)) (sym c.loop-node.invariant) (nets_within c.args.grid.now.nodes c.loop-node.node-index c.args.grid.now.injections_in_range)

pub loop-node-preserved : goal.loop-node-preserved
loop-node-preserved c =
    let nodes = c.args.grid.now.nodes in
    let k = c.loop-node.node-index in
    let node = c.node-item.result in
    let here : node ≡ get_or nodes k node = c.node-item.is ∙ ap (λ ns. get_or ns k node) c.as_slice-node-items.ensures.items in
    let below : k < length nodes = subst (λ ns. k < length ns) c.as_slice-node-items.ensures.items c.loop-node-test.true in
    let fits : FitsSigned w64 c.injection.result = search rules in
    let amount = to_z-of_z fits ∙ c.injection.ensures in
    c.in_ok-add.ensures
    ∙ (λ i. with_amount (c.loop-node.invariant i) (c.as_text.ensures.bytes i) (amount i))
    ∙ nets_more (take k nodes) node
    ∙ ap (λ n. nets_of (take k nodes ++ n ∷ [])) here
    ∙ ap nets_of (sym (take_more nodes k node below))
