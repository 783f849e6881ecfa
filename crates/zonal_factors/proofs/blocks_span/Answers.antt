use Rattle.std.proofs.Common.{pos, refl, sym, subst, ◌∙◌, get_or, arith, FitsSigned, w64, rules}
use Rattle.std.specs.Prelude.{◌<ℤ◌}
use Rattle.std.specs.List.{zip}
use Rattle.std.proofs.lemmas.Int.{to_z-of_z}
use Rattle.fb_types.specs.declared.keys.Block.{Block}
use Rattle.fb_types.specs.declared.rows.Angles.{Angles}
use Rattle.grid_laplacian.specs.Enclosures.{EnclosesColumn}
use Rattle.security.specs.Balances.{block_side}
use Rattle.security.specs.Flows.{NumberedBranch}
use Rattle.branch_spans.specs.FlowSpans.{IsBranchOf}
use Rattle.zonal_factors.specs.SharedSpans.{sums_of, parts_of}
use Rattle.zonal_factors.proofs.Held.{some_branch}
use Rattle.zonal_factors.proofs.Zones.{zip_get, zip_length}
use Rattle.zonal_factors.proofs.Fits.{no_shared, zero_past, step_past, one_more, all_summed, shared_is}
use Rattle.zonal_factors.proofs.ZoneParts.{shares_are, block_at, blocks_end, some_shares}
use Rattle.zonal_factors.proofs.blocks_span.Goals as goal

pub returns-in_err-sum : goal.returns-in_err-sum
returns-in_err-sum g c = λ named number stands.
    let whole = g.T.Scalar.whole in
    let low = whole g.T.Scalar.LOW in
    let high = whole g.T.Scalar.HIGH in
    let state = c.args.state.now in
    let barrier = c.args.barrier.now in
    let blocks = c.args.blocks.now in
    let angles = c.args.angles.now in
    let parts = parts_of state named barrier (zip blocks angles) in
    no_shared whole low high parts c.from_residual.result c.from_residual.ensures (zero_past low high parts c.in_err-sum.ensures)

pub bounds-angles-place : goal.bounds-angles-place
bounds-angles-place g c =
    let state = c.args.state.now in
    let e = zip_length (λ (b : Block) (a : Angles). EnclosesColumn state (block_side state b) a) c.args.blocks.now c.args.angles.now c.requires.encloses in
    omega (arith, e)

pub block_span-span-requires-clause-encloses : goal.block_span-span-requires-clause-encloses
block_span-span-requires-clause-encloses g c =
    let state = c.args.state.now in
    let blocks = c.args.blocks.now in
    let angles = c.args.angles.now in
    let place = c.loop-place.place in
    let block = c.index-blocks-place.result in
    subst (λ (b : Block). EnclosesColumn state (block_side state b) c.index-angles-place.result) (sym c.index-blocks-place.is)
    (subst (λ (a : Angles). EnclosesColumn state (block_side state (get_or blocks place block)) a) (sym c.index-angles-place.is)
    (zip_get (λ (b : Block) (a : Angles). EnclosesColumn state (block_side state b) a) blocks angles place block c.index-angles-place.result c.requires.encloses c.loop-place-test.true))

pub returns-in_err-sum-2 : goal.returns-in_err-sum-2
returns-in_err-sum-2 g c = λ named number stands.
    let whole = g.T.Scalar.whole in
    let low = whole g.T.Scalar.LOW in
    let high = whole g.T.Scalar.HIGH in
    let state = c.args.state.now in
    let barrier = c.args.barrier.now in
    let blocks = c.args.blocks.now in
    let angles = c.args.angles.now in
    let same = zip_length (λ (b : Block) (a : Angles). EnclosesColumn state (block_side state b) a) blocks angles c.requires.encloses in
    let place = c.loop-place.place in
    let fits : FitsSigned w64 c.index-blocks-place.result.share = search rules in
    let share = to_z-of_z w64 c.index-blocks-place.result.share fits in
    let parts = parts_of state named barrier (zip blocks angles) in
    let here = block_at state named barrier blocks angles place c.index-blocks-place.result c.index-angles-place.result c.block_span-span.result _ c.loop-place-test.true same c.index-blocks-place.is c.index-angles-place.is (c.block_span-span.ensures.value named number stands) share in
    no_shared whole low high parts c.from_residual-in_err-sum-2.result c.from_residual-in_err-sum-2.ensures
    (step_past low high parts place ((pos 0, pos 0), pos 0) _ (sums_of whole c.loop-place.sum.total c.loop-place.sum.weight) here (some_shares state named barrier blocks angles c.requires.blocks) (c.loop-place.invariant named number stands) c.in_err-sum-2.ensures)

pub loop-place-preserved : goal.loop-place-preserved
loop-place-preserved g c = λ named number stands.
    let whole = g.T.Scalar.whole in
    let low = whole g.T.Scalar.LOW in
    let high = whole g.T.Scalar.HIGH in
    let state = c.args.state.now in
    let barrier = c.args.barrier.now in
    let blocks = c.args.blocks.now in
    let angles = c.args.angles.now in
    let same = zip_length (λ (b : Block) (a : Angles). EnclosesColumn state (block_side state b) a) blocks angles c.requires.encloses in
    let place = c.loop-place.place in
    let fits : FitsSigned w64 c.index-blocks-place.result.share = search rules in
    let share = to_z-of_z w64 c.index-blocks-place.result.share fits in
    let here = block_at state named barrier blocks angles place c.index-blocks-place.result c.index-angles-place.result c.block_span-span.result _ c.loop-place-test.true same c.index-blocks-place.is c.index-angles-place.is (c.block_span-span.ensures.value named number stands) share in
    one_more low high (parts_of state named barrier (zip blocks angles)) place ((pos 0, pos 0), pos 0) _ (sums_of whole c.loop-place.sum.total c.loop-place.sum.weight) (sums_of whole c.in_ok-sum-2.sum.total c.in_ok-sum-2.sum.weight)
    here (c.loop-place.invariant named number stands) c.in_ok-sum-2.ensures

pub quotient-requires : goal.quotient-requires
quotient-requires g c =
    let whole = g.T.Scalar.whole in
    let low = whole g.T.Scalar.LOW in
    let high = whole g.T.Scalar.HIGH in
    let state = c.args.state.now in
    let barrier = c.args.barrier.now in
    let blocks = c.args.blocks.now in
    let angles = c.args.angles.now in
    let same = zip_length (λ (b : Block) (a : Angles). EnclosesColumn state (block_side state b) a) blocks angles c.requires.encloses in
    let found = some_branch c.args.grid.now.branches c.args.branch c.requires.branch in
    let named : NumberedBranch = record { number = c.args.branch; branch = found.0 } in
    let stands : IsBranchOf c.args.grid.now named = record { stands = found.1 } in
    let all = all_summed low high (parts_of state named barrier (zip blocks angles)) c.loop-place.place (sums_of whole c.loop-place.sum.total c.loop-place.sum.weight) (blocks_end state named barrier blocks angles c.loop-place.place same c.loop-place-test.false)
    (c.loop-place.invariant named refl stands) in
    subst (λ z. pos 0 <ℤ z) (sym (all.shares_are ∙ shares_are state named barrier blocks angles same ∙ c.requires.shares)) (record { lt = tt })

pub returns : goal.returns
returns g c = λ named number stands.
    let whole = g.T.Scalar.whole in
    let low = whole g.T.Scalar.LOW in
    let high = whole g.T.Scalar.HIGH in
    let state = c.args.state.now in
    let barrier = c.args.barrier.now in
    let blocks = c.args.blocks.now in
    let angles = c.args.angles.now in
    let same = zip_length (λ (b : Block) (a : Angles). EnclosesColumn state (block_side state b) a) blocks angles c.requires.encloses in
    let sums = sums_of whole c.loop-place.sum.total c.loop-place.sum.weight in
    let parts = parts_of state named barrier (zip blocks angles) in
    let all = all_summed low high parts c.loop-place.place sums (blocks_end state named barrier blocks angles c.loop-place.place same c.loop-place-test.false) (c.loop-place.invariant named number stands) in
    shared_is whole low high parts sums c.quotient.result all c.quotient.ensures.low c.quotient.ensures.high
