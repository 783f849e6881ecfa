use Rattle.std.proofs.Common.{◌≡◌, ℕ, ◌<◌, length, get_or, rules, sym, ◌∙◌, subst, arith}
use Rattle.std.specs.List.{All}
use Rattle.std.proofs.lemmas.Bool.{false≢true}
use Rattle.fb_types.specs.declared.rows.Fate.TheVariants.{Kept}
use Rattle.redundancy.specs.Thinned.{IsClear}
use Rattle.redundancy.specs.Fates.{IsProofWithout}
use Rattle.redundancy.proofs.Changing.{turned, all-clear, same_item}
use Rattle.redundancy.proofs.several.release.Goals as goal

pub loop-i-preserved : goal.loop-i-preserved
loop-i-preserved c =
    let rows = c.args.rows.now in
    let by = c.in-Some.by in
    let e : c.search_without.new.kept ≡ c.args.kept.now = c.search_without.ensures.same ∙ c.loop-i.invariant.0 in
    let p : IsProofWithout rows c.args.bounds.now c.args.kept.now c.loop-i.i c.args.k by = search rules in
    let inside : c.loop-i.i < length c.loop-i.fates = (let each = c.loop-i.invariant.1.thinned.each in let l = c.loop-i-test.true in omega arith) in
    let n : IsClear c.args.number (get_or c.loop-i.fates c.loop-i.i Kept) → ⊥ = λ h. absurd (false≢true (sym c.if-spares.false ∙ c.spares.ensures.1 (subst (IsClear c.args.number) (same_item c.loop-i.fates c.loop-i.i _ inside) h))) in
    let t = turned rows c.args.bounds.now c.loop-i.fates c.args.kept.now c.loop-i.i c.args.k c.args.number by c.requires.is_number c.loop-i-test.true n c.loop-i.invariant.1 p c.loop-i.invariant.2 in
    (e, t.0, t.1)

pub returns-clause-free : goal.returns-clause-free
returns-clause-free c t =
    let each = c.loop-i.invariant.1.thinned.each in
    subst (λ (n : ℕ). All (IsClear n) c.loop-i.fates) c.requires.is_number (all-clear c.args.number c.loop-i.fates c.loop-i.i (omega (arith, c.loop-i-test.false)) c.loop-i.invariant.2)
