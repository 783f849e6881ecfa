use Rattle.std.proofs.Common.{◌≡◌, ℕ, ◌+◌, ◌-◌, sym, ◌∙◌, subst, arith}
use Rattle.std.proofs.lemmas.Bool.{false≢true}
use Rattle.multiplier_search.specs.Corners.{IsCovered}
use Rattle.multiplier_search.specs.Found.{one_of}
use Rattle.redundancy.specs.Thinned.{row_of}
use Rattle.redundancy.specs.Kept.{IsBackward}
use Rattle.redundancy.proofs.Keeping.{stays, drops}
use Rattle.redundancy.proofs.single.backward.Goals as goal

pub loop-i-preserved-then-not-kept-i : goal.loop-i-preserved-then-not-kept-i
loop-i-preserved-then-not-kept-i c =
    let i = c.loop-i.i - 1 in
    let e : c.loop-i.i ≡ i + 1 = omega (arith, c.loop-i-test.true) in
    let s = subst (λ (n : ℕ). IsBackward c.args.rows.now c.args.bounds.now c.loop-i.kept n) e c.loop-i.invariant.1 in
    (omega (arith, c.loop-i.invariant.0), stays c.args.rows.now c.args.bounds.now c.loop-i.kept i s (λ k. absurd (false≢true (sym c.if-not-kept-i.true ∙ k))))

pub loop-i-preserved : goal.loop-i-preserved
loop-i-preserved c =
    let i = c.loop-i.i - 1 in
    let e : c.loop-i.i ≡ i + 1 = omega (arith, c.loop-i-test.true) in
    let s = subst (λ (n : ℕ). IsBackward c.args.rows.now c.args.bounds.now c.loop-i.kept n) e c.loop-i.invariant.1 in
    (omega (arith, c.loop-i.invariant.0), stays c.args.rows.now c.args.bounds.now c.loop-i.kept i s (λ k j l m h. c.in_default.ensures j (omega arith) m h))

pub loop-i-preserved-in-Some : goal.loop-i-preserved-in-Some
loop-i-preserved-in-Some c =
    let i = c.loop-i.i - 1 in
    let e : c.loop-i.i ≡ i + 1 = omega (arith, c.loop-i-test.true) in
    let s = subst (λ (n : ℕ). IsBackward c.args.rows.now c.args.bounds.now c.loop-i.kept n) e c.loop-i.invariant.1 in
    let one = c.in-Some.field-0 in
    let p = c.in-Some.ensures in
    let number : (one.row - 1) + 1 ≡ one.row = omega (arith, p.above) in
    let cover : IsCovered (row_of c.args.rows.now i) c.args.rows.now (one_of ((one.row - 1) + 1)) c.args.bounds.now one.mu = subst (λ (n : ℕ). IsCovered (row_of c.args.rows.now i) c.args.rows.now (one_of n) c.args.bounds.now one.mu) (sym number) p.covers in (
      omega (arith, c.loop-i.invariant.0),
      drops c.args.rows.now c.args.bounds.now c.loop-i.kept i (one.row - 1) one.mu (omega (arith, c.loop-i-test.true, c.loop-i.invariant.0)) (c.loop-i.auto.kept ∙ c.requires.each) (omega (arith, p.above)) (omega (arith, p.above, p.within, c.loop-i-test.true)) p.is_kept cover s,
    )
