use Rattle.std.proofs.Common.{ℕ, ◌+◌, ◌*ℤ◌, arith}
use Rattle.whole_laws.specs.Sums.{at}
use Rattle.whole_laws.specs.SumLaws.{sum_below-more}
use Rattle.redundancy.specs.Points.{value_below}
use Rattle.redundancy.proofs.Slacks.{value_added}
use Rattle.redundancy.proofs.points.value_of.Goals as goal

pub loop-z-preserved : goal.loop-z-preserved
loop-z-preserved c =
    let row = c.args.row.now in
    let x = c.args.x.now in
    let z = c.loop-z.z in
    value_added z (value_below row x z) (at row.a z *ℤ at x z) _ _ (value_below row x (z + 1)) (omega (arith, c.loop-z-test.true, c.requires.few)) c.loop-z.invariant.0 c.loop-z.invariant.1 c.term_at-sum.ensures.exact c.term_at-sum.ensures.small (sum_below-more z (λ (k : ℕ). at row.a k *ℤ at x k))
