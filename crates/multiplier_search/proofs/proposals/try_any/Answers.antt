use Rattle.std.proofs.Common.{◌<◌, pos, length, rules}
use Rattle.std.specs.Prelude.{◌≤ℤ◌}
use Rattle.std.specs.List.{All, AllAdjacentBelow}
use Rattle.fb_types.specs.Domain.{IsRow}
use Rattle.multiplier_search.specs.Tries.{CitesKept, AreLight}
use Rattle.multiplier_search.proofs.Trying.{any_found, larger}
use Rattle.multiplier_search.proofs.proposals.try_any.Goals as goal

pub returns : goal.returns
returns c =
    let mults = c.args.mults.now in
    let cited : All (λ m. IsRow c.args.rows.now m.row) c.args.mults.now = search rules in
    let kept : CitesKept c.args.kept.now c.args.mults.now = search rules in
    let rising : AllAdjacentBelow (λ m n. m.row < n.row) c.args.mults.now (length c.args.mults.now) = search rules in
    let nonnegative : All (λ m. pos 0 ≤ℤ m.value) c.args.mults.now = search rules in
    let light : AreLight c.args.mults.now = search rules in
    any_found c.args.target.now c.args.rows.now c.args.kept.now mults c.args.bounds.now c.try_mults.result (record { cited = cited; rising = rising; nonnegative = nonnegative; total = larger _ light.total }) kept c.try_mults.ensures
