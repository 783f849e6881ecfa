use Rattle.std.proofs.Common.{◌≡◌, ◌≤◌, All, length, ap, arith}
use Rattle.std.proofs.lemmas.Result.{IfOk-weaker}
use Rattle.fb_types.specs.Domain.{IsHalfOver}
use Rattle.fb_certificate.specs.Lists.{AreCites}
use Rattle.fb_certificate.specs.Thin.{IsThinList}
use Rattle.row_removal.specs.Kinds.{kind_of}
use Rattle.row_removal.specs.Renumbered.{cites_below}
use Rattle.row_removal.proofs.Removing.{halves_over, halves_few, thinning, fates_cite_numbers, thinning_cites, thinning_thins}
use Rattle.row_removal.proofs.removed_rows.Goals as goal

pub thin-requires-clause-rows_over : goal.thin-requires-clause-rows_over
thin-requires-clause-rows_over c =
    let over : All (λ row. IsHalfOver (length c.args.bounds.now) ((kind_of c.args.list).half row)) c.as_slice.result.now = rw c.as_slice.ensures.items c.requires.rows_over in
    halves_over (kind_of c.args.list) c.as_slice.result.now c.in_ok-listed.listed.numbers c.in_ok-listed.listed.halves (length c.args.bounds.now) c.in_ok-listed.ensures.numbers c.in_ok-listed.ensures.halves over

pub thin-requires-clause-few : goal.thin-requires-clause-few
thin-requires-clause-few c =
    let few : length c.in_ok-listed.listed.halves ≤ length c.as_slice.result.now = halves_few (kind_of c.args.list) c.as_slice.result.now c.in_ok-listed.listed.numbers c.in_ok-listed.listed.halves c.in_ok-listed.ensures.numbers c.in_ok-listed.ensures.halves in
    let same : length c.as_slice.result.now ≡ length c.args.rows.now = ap length c.as_slice.ensures.items in
    omega (arith, few, same, c.requires.few)

pub cites_of-requires-clause-cited : goal.cites_of-requires-clause-cited
cites_of-requires-clause-cited c =
    let kind = kind_of c.args.list in
    let listed = c.in_ok-listed.listed in
    let fates = c.in_ok-fates.fates in
    let thinned = thinning kind c.args.bounds.now c.args.rows.now c.as_slice.result.now listed.numbers listed.halves fates c.as_slice.ensures.items c.in_ok-listed.ensures.numbers c.in_ok-listed.ensures.halves c.in_ok-fates.ensures.thinned c.in_ok-fates.ensures.settled in
    fates_cite_numbers kind c.args.bounds.now c.args.rows.now listed.numbers listed.halves fates thinned c.as_slice-3.result.now c.as_slice-2.result.now c.as_slice-3.ensures.items c.as_slice-2.ensures.items

pub returns-clause-cites : goal.returns-clause-cites
returns-clause-cites c =
    let kind = kind_of c.args.list in
    let listed = c.in_ok-listed.listed in
    let fates = c.in_ok-fates.fates in
    let thinned = thinning kind c.args.bounds.now c.args.rows.now c.as_slice.result.now listed.numbers listed.halves fates c.as_slice.ensures.items c.in_ok-listed.ensures.numbers c.in_ok-listed.ensures.halves c.in_ok-fates.ensures.thinned c.in_ok-fates.ensures.settled in
    IfOk-weaker c.cites_of.result (λ cites. cites ≡ cites_below c.as_slice-3.result.now c.as_slice-2.result.now (length c.as_slice-2.result.now)) (AreCites kind c.args.bounds.now c.args.rows.now) (thinning_cites kind c.args.bounds.now c.args.rows.now listed.numbers listed.halves fates thinned c.as_slice-3.result.now c.as_slice-2.result.now c.as_slice-3.ensures.items c.as_slice-2.ensures.items) c.cites_of.ensures

pub returns-clause-thinned : goal.returns-clause-thinned
returns-clause-thinned c =
    let kind = kind_of c.args.list in
    let listed = c.in_ok-listed.listed in
    let fates = c.in_ok-fates.fates in
    let thinned = thinning kind c.args.bounds.now c.args.rows.now c.as_slice.result.now listed.numbers listed.halves fates c.as_slice.ensures.items c.in_ok-listed.ensures.numbers c.in_ok-listed.ensures.halves c.in_ok-fates.ensures.thinned c.in_ok-fates.ensures.settled in
    IfOk-weaker c.cites_of.result (λ cites. cites ≡ cites_below c.as_slice-3.result.now c.as_slice-2.result.now (length c.as_slice-2.result.now)) (IsThinList kind c.args.bounds.now c.args.rows.now) (thinning_thins kind c.args.bounds.now c.args.rows.now listed.numbers listed.halves fates thinned c.as_slice-3.result.now c.as_slice-2.result.now c.as_slice-3.ensures.items c.as_slice-2.ensures.items) c.cites_of.ensures
