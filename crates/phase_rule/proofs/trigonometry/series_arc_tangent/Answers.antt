use Rattle.std.proofs.Common.{◌≡◌, ◌*◌, arith}
use Rattle.phase_rule.proofs.Series.{arc_pair, arc_whole}
use Rattle.phase_rule.proofs.trigonometry.series_arc_tangent.Goals as goal

pub loop-pair-preserved : goal.loop-pair-preserved
loop-pair-preserved c =
    let place : 4 * c.from-place.result ≡ 4 * c.loop-pair.pair = omega (arith, c.from-place.ensures) in
    arc_pair c.args.u c.loop-pair.pair (4 * c.from-place.result) c.loop-pair.sum c.loop-pair.power c.next_power-taken.result c.next_power-power.result
    c.loop-pair.invariant place c.next_power-taken.ensures.value c.next_power-taken.ensures.smaller c.next_power-power.ensures.value c.next_power-power.ensures.smaller

pub returns-clause-value : goal.returns-clause-value
returns-clause-value c = arc_whole c.args.u c.loop-pair.pair c.loop-pair.sum c.loop-pair.power c.loop-pair.invariant (omega arith)
