use Rattle.std.proofs.Common.{◌≡◌, ℕ, ◌+◌, ◌-◌, ◌<◌, ◌≤◌, true, arith, subst, sym, ◌∙◌}
use Rattle.std.proofs.lemmas.Bool.{false≢true}
use borrow.Author.Count.{below_more}
use Rattle.fb_types.specs.Domain.{IsRow}
use Rattle.multiplier_search.specs.Found.{pair_of}
use Rattle.multiplier_search.specs.Tries.{is_kept, IsUncovered}
use Rattle.multiplier_search.proofs.tries.try_pairs.Goals as goal

pub loop-i-preserved : goal.loop-i-preserved
loop-i-preserved c =
    below_more (λ (i : ℕ). is_kept c.args.kept.now i ≡ true → (second k : ℕ) → IsRow c.args.rows.now second → is_kept c.args.kept.now (second - 1) ≡ true → i + 1 < second → 1 ≤ k → k < 10 → IsUncovered c.args.target.now c.args.rows.now (pair_of (i + 1) second k) c.args.bounds.now) c.loop-i.i c.loop-i.invariant (λ x second k r y l p q. c.in_default.ensures second k r y l p q)

pub returns : goal.returns
returns c first second k f s x y l p q =
    let e : (first - 1) + 1 ≡ first = omega (arith, f.above) in
    subst (λ (n : ℕ). IsUncovered c.args.target.now c.args.rows.now (pair_of n second k) c.args.bounds.now) e (c.loop-i.invariant (first - 1) (omega (arith, f.above, f.within, c.loop-i-test.false)) x second k s y (omega arith) p q)

pub loop-i-preserved-then-not-kept-i : goal.loop-i-preserved-then-not-kept-i
loop-i-preserved-then-not-kept-i c =
    below_more (λ (i : ℕ). is_kept c.args.kept.now i ≡ true → (second k : ℕ) → IsRow c.args.rows.now second → is_kept c.args.kept.now (second - 1) ≡ true → i + 1 < second → 1 ≤ k → k < 10 → IsUncovered c.args.target.now c.args.rows.now (pair_of (i + 1) second k) c.args.bounds.now) c.loop-i.i c.loop-i.invariant (λ x second k r y l p q. absurd (false≢true (sym c.if-not-kept-i.true ∙ x)))
