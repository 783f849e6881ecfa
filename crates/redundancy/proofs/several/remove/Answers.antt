use Rattle.std.proofs.Common.{◌≡◌, List, Bool, false, set, rules, sym, ◌∙◌, subst}
use Rattle.fb_types.specs.declared.rows.Fate.TheVariants.{Removed}
use Rattle.redundancy.specs.Thinned.{IsUncited}
use Rattle.redundancy.specs.Fates.{IsState, IsProofWithout}
use Rattle.redundancy.proofs.Changing.{dropped}
use Rattle.redundancy.proofs.several.remove.Goals as goal

pub returns-clause-state : goal.returns-clause-state
returns-clause-state c =
    let rows = c.args.rows.now in
    let bounds = c.args.bounds.now in
    let fates = c.release.new.fates in
    let kept = c.args.kept.now in
    let by = c.in-Some.by in
    let e : c.release.new.kept ≡ kept = c.release.ensures.same ∙ c.search_without.ensures.same in
    let p : IsProofWithout rows bounds kept c.args.k c.args.k by = search rules in
    let u : IsUncited fates c.args.k = search rules in
    let s : IsState rows bounds fates kept = subst (IsState rows bounds fates) c.search_without.ensures.same (search rules) in
    subst (λ (ks : List Bool). IsState rows bounds (set fates c.args.k (Removed by)) (set ks c.args.k false)) (sym e) (dropped rows bounds fates kept c.args.k by s c.requires.is_kept u p)
