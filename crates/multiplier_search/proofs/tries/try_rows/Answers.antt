use Rattle.std.proofs.Common.{◌≡◌, ℕ, ◌+◌, ◌-◌, arith, subst}
use Rattle.multiplier_search.specs.Found.{one_of}
use Rattle.multiplier_search.specs.Tries.{IsUncovered}
use Rattle.multiplier_search.proofs.tries.try_rows.Goals as goal

pub returns : goal.returns
returns c number i k =
    let e : (number - 1) + 1 ≡ number = omega (arith, i.above) in
    subst (λ (n : ℕ). IsUncovered c.args.target.now c.args.rows.now (one_of n) c.args.bounds.now) e (c.loop-i.invariant (number - 1) (omega (arith, i.above, i.within, c.loop-i-test.false)) k)
