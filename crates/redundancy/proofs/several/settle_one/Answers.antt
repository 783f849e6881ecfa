use Rattle.std.proofs.Common.{◌≡◌, suc, ◌<◌, List, Bool, true, false, set, rules, sym, ◌∙◌, subst, arith}
use Rattle.multiplier_search.specs.Tries.{is_kept}
use Rattle.fb_types.specs.declared.rows.Fate.TheVariants.{Removed}
use Rattle.redundancy.specs.Thinned.{IsUncited}
use Rattle.redundancy.specs.Fates.{IsState, IsProofWithout, count}
use Rattle.redundancy.proofs.Changing.{dropped, count-set}
use Rattle.redundancy.proofs.several.settle_one.Goals as goal

pub returns-in-Some-clause-state : goal.returns-in-Some-clause-state
returns-in-Some-clause-state c =
    let rows = c.args.rows.now in
    let bounds = c.args.bounds.now in
    let fates = c.loop-k.fates in
    let kept = c.args.kept.now in
    let k = c.loop-k.k in
    let by = c.in-Some.by in
    let same : c.loop-k.kept ≡ kept = c.loop-k.invariant.0 in
    let e : c.find_without.new.kept ≡ kept = c.find_without.ensures.same ∙ same in
    let flag : is_kept kept k ≡ true = subst (λ (ks : List Bool). is_kept ks k ≡ true) same c.if-not-kept-k.false in
    let q : IsProofWithout rows bounds c.loop-k.kept k k by = search rules in
    let p : IsProofWithout rows bounds kept k k by = subst (λ (ks : List Bool). IsProofWithout rows bounds ks k k by) same q in
    let u : IsUncited fates k = search rules in
    subst (λ (ks : List Bool). IsState rows bounds (set fates k (Removed by)) (set ks k false)) (sym e) (dropped rows bounds fates kept k by c.loop-k.invariant.1 flag u p)

pub returns-in-Some-clause-fewer : goal.returns-in-Some-clause-fewer
returns-in-Some-clause-fewer c t =
    let kept = c.args.kept.now in
    let k = c.loop-k.k in
    let same : c.loop-k.kept ≡ kept = c.loop-k.invariant.0 in
    let e : c.find_without.new.kept ≡ kept = c.find_without.ensures.same ∙ same in
    let flag : is_kept kept k ≡ true = subst (λ (ks : List Bool). is_kept ks k ≡ true) same c.if-not-kept-k.false in
    let n : suc (count (set kept k false)) ≡ count kept = count-set kept k flag in
    subst (λ (ks : List Bool). count (set ks k false) < count kept) (sym e) (omega arith)
