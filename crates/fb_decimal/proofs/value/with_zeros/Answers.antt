use Rattle.std.proofs.Common.{arith, ap, ◌∙◌, ◌*◌, ◌+◌}
use Rattle.fb_decimal.proofs.Digits.{times_ten, zeros_grow, many_zeros}
use Rattle.fb_decimal.proofs.value.with_zeros.Goals as goal

pub returns-then-zeros-gt30 : goal.returns-then-zeros-gt30
returns-then-zeros-gt30 c = many_zeros c.args.number c.args.zeros c.if-number-eq0.false c.if-zeros-gt30.true

pub returns-then-total-gt-LIMIT : goal.returns-then-total-gt-LIMIT
returns-then-total-gt-LIMIT c = omega (arith, ap (λ n. n * 10) c.loop.invariant.0 ∙ times_ten c.args.number c.loop.counter, zeros_grow c.args.number (c.loop.counter + 1) c.args.zeros (omega arith))

pub loop-preserved : goal.loop-preserved
loop-preserved c = (ap (λ n. n * 10) c.loop.invariant.0 ∙ times_ten c.args.number c.loop.counter, omega arith)
