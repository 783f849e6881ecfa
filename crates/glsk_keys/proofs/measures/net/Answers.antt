use Rattle.std.proofs.Common.{◌+◌}
use mir.Syntax.{w64}
use mir.Val.{SFits}
use Rattle.std.proofs.lemmas.Int.{to_z-of_z}
use Rattle.glsk_keys.proofs.SizeLaws.{net_next, net_fits}
use Rattle.glsk_keys.proofs.measures.net.Goals as goal

pub overflow_add-net : goal.overflow_add-net
overflow_add-net c =
    let f : SFits w64 c.injection-net.result = record { sfits = c.injection-net.type_inv } in
    let i = c.loop-place.place in
    let n = net_next c.args.chosen.now c.args.nodes.now i c.index-nodes-place.result _ c.injection-net.result c.requires.each c.loop-place-test.true c.index-nodes-place.is c.loop-place.invariant c.injection-net.ensures in
    simp to_z-of_z (net_fits c.args.chosen.now c.args.nodes.now (i + 1) _ n c.requires.small)

pub loop-place-preserved : goal.loop-place-preserved
loop-place-preserved c =
    let f : SFits w64 c.injection-net.result = record { sfits = c.injection-net.type_inv } in
    let i = c.loop-place.place in
    let n = net_next c.args.chosen.now c.args.nodes.now i c.index-nodes-place.result _ c.injection-net.result c.requires.each c.loop-place-test.true c.index-nodes-place.is c.loop-place.invariant c.injection-net.ensures in
    let g = net_fits c.args.chosen.now c.args.nodes.now (i + 1) _ n c.requires.small in
    simp to_z-of_z n
