use Rattle.std.proofs.Common.{rules, ◌+◌, ◌<◌, ◌^◌, FitsSigned, w64, to_z}
use mir.Syntax.{w128}
use Rattle.run_settings.proofs.TotalLaws.{totals_more}
use Rattle.run_settings.proofs.zones.sums.Goals as goal

pub loop-zone-preserved : goal.loop-zone-preserved
loop-zone-preserved c =
    let zone = c.zone-item.result in
    let low : FitsSigned w64 zone.bounds.low = search rules in
    let high : FitsSigned w64 zone.bounds.high = search rules in
    let few : c.loop-zone.zone-index + 1 < 2 ^ 64 = search rules in
    totals_more c.args.zones.now c.loop-zone.zone-index zone (to_z w128 c.loop-zone.low-bits) (to_z w128 c.loop-zone.high-bits) c.from-low.result c.from-high.result
    c.loop-zone-test.true few c.zone-item.is low high c.from-low.ensures c.from-high.ensures c.loop-zone.invariant
