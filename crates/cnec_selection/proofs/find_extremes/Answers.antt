use Rattle.cnec_selection.proofs.Ends.{extremes_step, extremes_all, end_past, by_none}
use Rattle.cnec_selection.proofs.find_extremes.Goals as goal

pub returns-in_err-greatest : goal.returns-in_err-greatest
returns-in_err-greatest g c =
    by_none _ _ c.from_residual.result c.from_residual.ensures
    (end_past (g.T.Scalar.whole g.T.Scalar.LOW) (g.T.Scalar.whole g.T.Scalar.HIGH) c.args.factors.now 0 c.index-factors-0.result c.requires.some c.index-factors-0.is c.in_err-greatest.ensures)

pub loop-factor-preserved : goal.loop-factor-preserved
loop-factor-preserved g c =
    extremes_step g.T.Scalar.whole (g.T.Scalar.whole g.T.Scalar.LOW) (g.T.Scalar.whole g.T.Scalar.HIGH) c.args.factors.now c.loop-factor.factor-index c.factor-item.result
    c.loop-factor.greatest c.loop-factor.least c.in_ok-span.span c.max-greatest.result c.min-least.result c.loop-factor-test.true c.factor-item.is c.loop-factor.invariant c.in_ok-span.ensures
    (record { low = c.max-greatest.ensures.low; high = c.max-greatest.ensures.high }) (record { low = c.min-least.ensures.low; high = c.min-least.ensures.high })

pub returns : goal.returns
returns g c =
    extremes_all g.T.Scalar.whole (g.T.Scalar.whole g.T.Scalar.LOW) (g.T.Scalar.whole g.T.Scalar.HIGH) c.args.factors.now c.loop-factor.factor-index c.loop-factor.greatest c.loop-factor.least c.requires.some
    c.loop-factor-test.false c.loop-factor.invariant
