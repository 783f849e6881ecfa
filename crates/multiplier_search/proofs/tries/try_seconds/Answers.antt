use Rattle.std.proofs.Common.{◌≡◌, ℕ, ◌+◌, ◌-◌, ◌<◌, ◌≤◌, true, arith, subst, sym, ◌∙◌}
use Rattle.std.proofs.lemmas.Bool.{false≢true}
use borrow.Author.Count.{below_more}
use Rattle.multiplier_search.specs.Found.{pair_of}
use Rattle.multiplier_search.specs.Tries.{is_kept, IsUncovered}
use Rattle.multiplier_search.proofs.tries.try_seconds.Goals as goal

pub loop-i-preserved : goal.loop-i-preserved
loop-i-preserved c =
    below_more (λ (j : ℕ). c.args.first ≤ j → is_kept c.args.kept.now j ≡ true → (k : ℕ) → 1 ≤ k → k < 10 → IsUncovered c.args.target.now c.args.rows.now (pair_of c.args.first (j + 1) k) c.args.bounds.now) c.loop-i.i c.loop-i.invariant (λ l y k p q. c.in_default.ensures k p q)

pub returns : goal.returns
returns c second k i y l p q =
    let e : (second - 1) + 1 ≡ second = omega (arith, i.above) in
    subst (λ (n : ℕ). IsUncovered c.args.target.now c.args.rows.now (pair_of c.args.first n k) c.args.bounds.now) e (c.loop-i.invariant (second - 1) (omega (arith, i.above, i.within, c.loop-i-test.false)) (omega arith) y k p q)

pub loop-i-preserved-then-not-kept-i : goal.loop-i-preserved-then-not-kept-i
loop-i-preserved-then-not-kept-i c =
    below_more (λ (j : ℕ). c.args.first ≤ j → is_kept c.args.kept.now j ≡ true → (k : ℕ) → 1 ≤ k → k < 10 → IsUncovered c.args.target.now c.args.rows.now (pair_of c.args.first (j + 1) k) c.args.bounds.now) c.loop-i.i c.loop-i.invariant (λ l y k p q. absurd (false≢true (sym c.if-not-kept-i.true ∙ y)))
