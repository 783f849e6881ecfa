use Rattle.std.proofs.Common.{◌≡◌, ◌*◌, arith}
use Rattle.phase_rule.proofs.Series.{sine_pair, sine_whole}
use Rattle.phase_rule.proofs.trigonometry.series_sine.Goals as goal

pub loop-pair-preserved : goal.loop-pair-preserved
loop-pair-preserved c =
    let place : 2 * c.from-place.result ≡ 2 * c.loop-pair.pair = omega (arith, c.from-place.ensures) in
    sine_pair c.args.x c.loop-pair.pair (2 * c.from-place.result) c.loop-pair.sum c.loop-pair.term c.next_sine_term-taken.result c.next_sine_term-term.result
    c.loop-pair.invariant place c.next_sine_term-taken.ensures.value c.next_sine_term-taken.ensures.smaller c.next_sine_term-term.ensures.value c.next_sine_term-term.ensures.smaller

pub returns-clause-value : goal.returns-clause-value
returns-clause-value c = sine_whole c.args.x c.loop-pair.pair c.loop-pair.sum c.loop-pair.term c.loop-pair.invariant (omega arith)
