use Rattle.std.proofs.Common.{◌≡◌, ◌<◌, length, true, false, set, subst, arith, ◌∙◌}
use Rattle.fb_types.specs.declared.rows.Half.{Half}
use Rattle.multiplier_search.specs.Tries.{is_kept, IsProof}
use Rattle.redundancy.proofs.Changing.{back, if_some, proof-without, flag_inside, same_row}
use Rattle.redundancy.proofs.several.find_without.Goals as goal

pub returns-clause-same : goal.returns-clause-same
returns-clause-same c = back c.args.kept.now c.args.k c.requires.is_kept

pub returns-clause-proof : goal.returns-clause-proof
returns-clause-proof c =
    let rows = c.args.rows.now in
    let bounds = c.args.bounds.now in
    let kept = c.args.kept.now in
    let k = c.args.k in
    let here = c.index-rows-k.result in
    let flag : is_kept kept k ≡ true = c.requires.is_kept in
    let l : k < length kept = flag_inside kept k flag in
    let m : k < length rows = (let e = c.requires.each in omega arith) in
    if_some c.find_or_refute-found.result (λ by. IsProof here rows (set kept k false) bounds by) _ (λ by p. proof-without rows bounds kept k k by l (subst (λ (x : Half). IsProof x rows (set kept k false) bounds by) (c.index-rows-k.is ∙ same_row rows k here m) p)) c.find_or_refute-found.ensures.proof
