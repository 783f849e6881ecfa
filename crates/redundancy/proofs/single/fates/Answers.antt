use Rattle.std.proofs.Common.{◌≡◌, ◌+◌, ◌++◌, ◌∷◌, [], length, List, arith, sym, subst, length-append}
use Rattle.std.specs.Prelude.{Some, slice_get}
use Rattle.fb_types.specs.declared.rows.Fate.{Fate}
use Rattle.redundancy.proofs.Fated.{step, begins}
use Rattle.redundancy.proofs.single.fates.Goals as goal

pub loop-k-preserved : goal.loop-k-preserved
loop-k-preserved c =
    let e : c.push.new.self.items ≡ c.loop-k.all.items ++ c.in_ok-fate.fate ∷ [] = c.in_ok-push.ensures.items in
    let fate : Fate = c.in_ok-fate.fate in
    let longer : length (c.loop-k.all.items ++ fate ∷ []) ≡ c.loop-k.k + 1 = omega (arith, length-append c.loop-k.all.items (fate ∷ []), c.loop-k.invariant.0) in (
      subst (λ (xs : List Fate). length xs ≡ c.loop-k.k + 1) (sym e) longer,
      λ m f h. step c.args.rows.now c.args.bounds.now c.args.kept.now c.loop-k.all.items fate c.loop-k.k c.loop-k.invariant.0 c.loop-k.invariant.1 c.in_ok-fate.ensures m f (subst (λ (xs : List Fate). slice_get xs m ≡ Some f) e h),
    )

pub returns : goal.returns
returns c =
    begins c.args.rows.now c.args.bounds.now c.args.kept.now c.loop-k.all.items (omega (arith, c.loop-k.invariant.0, c.loop-k.auto.k-end, c.loop-k-test.false)) c.requires.each c.requires.passed c.loop-k.invariant.1
