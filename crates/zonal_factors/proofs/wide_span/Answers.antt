use Rattle.std.proofs.Common.{refl, ap₂, ◌∙◌}
use Rattle.std.specs.List.{zip}
use Rattle.fb_types.specs.declared.keys.Block.{Block}
use Rattle.fb_types.specs.declared.rows.Angles.{Angles}
use Rattle.grid_laplacian.specs.Enclosures.{EnclosesColumn}
use Rattle.security.specs.Balances.{block_side}
use Rattle.security.specs.Flows.{NumberedBranch}
use Rattle.branch_spans.specs.FlowSpans.{IsBranchOf}
use Rattle.zonal_factors.specs.SharedSpans.{parts_of}
use Rattle.zonal_factors.proofs.Held.{some_branch}
use Rattle.zonal_factors.proofs.Zones.{zip_length}
use Rattle.zonal_factors.proofs.Fits.{within_fits}
use Rattle.zonal_factors.proofs.ZoneParts.{Zone, shares_are, zone_is, some_shares, parts_within, wide_holds}
use Rattle.zonal_factors.proofs.wide_span.Goals as goal

pub unreachable-requires : goal.unreachable-requires
unreachable-requires c =
    let state = c.args.state.now in
    let barrier = c.args.barrier.now in
    let blocks = c.args.blocks.now in
    let angles = c.args.angles.now in
    let same = zip_length (λ (b : Block) (a : Angles). EnclosesColumn state (block_side state b) a) blocks angles c.requires.encloses in
    let found = some_branch c.args.grid.now.branches c.args.branch c.requires.branch in
    let named : NumberedBranch = record { number = c.args.branch; branch = found.0 } in
    let stands : IsBranchOf c.args.grid.now named = record { stands = found.1 } in
    let zone : Zone c.args.grid.now state named barrier blocks angles = record { sound = c.sound.ensures; of = c.requires.of_grid; stands = stands; carries = c.requires.carries; barrier = c.requires.barrier; each = c.requires.blocks; encloses = c.requires.encloses } in
    c.in-None.ensures named refl stands
    (within_fits 1_000_000_000_000 100_000_000 _ _ (parts_of state named barrier (zip blocks angles)) wide_holds (parts_within c.args.grid.now state named barrier blocks angles zone)
    (some_shares state named barrier blocks angles c.requires.blocks) (shares_are state named barrier blocks angles same ∙ c.requires.shares))

pub returns : goal.returns
returns c = λ named number stands.
    let state = c.args.state.now in
    let barrier = c.args.barrier.now in
    let blocks = c.args.blocks.now in
    let angles = c.args.angles.now in
    let same = zip_length (λ (b : Block) (a : Angles). EnclosesColumn state (block_side state b) a) blocks angles c.requires.encloses in
    let shared = c.in-Some.ensures named number stands in
    ap₂ (λ x y. (x, y)) shared.0 shared.1 ∙ zone_is state named barrier blocks angles same c.requires.shares
