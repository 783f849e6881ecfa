use Rattle.std.proofs.Common.{refl, sym, subst}
use Rattle.fb_types.specs.declared.keys.Block.{Block}
use Rattle.fb_types.specs.declared.rows.Angles.{Angles}
use Rattle.grid_laplacian.specs.Enclosures.{EnclosesColumn}
use Rattle.security.specs.Balances.{block_side}
use Rattle.security.specs.Flows.{NumberedBranch}
use Rattle.branch_spans.specs.FlowSpans.{IsBranchOf}
use Rattle.fb_span.specs.Ends.{EndsWithin}
use Rattle.zonal_factors.proofs.Held.{some_branch}
use Rattle.zonal_factors.proofs.Zones.{zip_length}
use Rattle.zonal_factors.proofs.ZoneParts.{Zone, zone_in}
use Rattle.zonal_factors.proofs.zone_span.Goals as goal

pub returns-in-Some-clause-within : goal.returns-in-Some-clause-within
returns-in-Some-clause-within c =
    let state = c.args.state.now in
    let barrier = c.args.barrier.now in
    let blocks = c.args.blocks.now in
    let angles = c.args.angles.now in
    let same = zip_length (λ (b : Block) (a : Angles). EnclosesColumn state (block_side state b) a) blocks angles c.requires.encloses in
    let found = some_branch c.args.grid.now.branches c.args.branch c.requires.branch in
    let named : NumberedBranch = record { number = c.args.branch; branch = found.0 } in
    let stands : IsBranchOf c.args.grid.now named = record { stands = found.1 } in
    let zone : Zone c.args.grid.now state named barrier blocks angles = record { sound = c.sound.ensures; of = c.requires.of_grid; stands = stands; carries = c.requires.carries; barrier = c.requires.barrier; each = c.requires.blocks; encloses = c.requires.encloses } in
    subst (EndsWithin 1_000_000_000_000) (sym (c.in-Some.ensures.value named refl stands)) (zone_in c.args.grid.now state named barrier blocks angles zone same c.requires.shares)

pub returns-in-None-clause-within : goal.returns-in-None-clause-within
returns-in-None-clause-within c =
    let state = c.args.state.now in
    let barrier = c.args.barrier.now in
    let blocks = c.args.blocks.now in
    let angles = c.args.angles.now in
    let same = zip_length (λ (b : Block) (a : Angles). EnclosesColumn state (block_side state b) a) blocks angles c.requires.encloses in
    let found = some_branch c.args.grid.now.branches c.args.branch c.requires.branch in
    let named : NumberedBranch = record { number = c.args.branch; branch = found.0 } in
    let stands : IsBranchOf c.args.grid.now named = record { stands = found.1 } in
    let zone : Zone c.args.grid.now state named barrier blocks angles = record { sound = c.sound.ensures; of = c.requires.of_grid; stands = stands; carries = c.requires.carries; barrier = c.requires.barrier; each = c.requires.blocks; encloses = c.requires.encloses } in
    subst (EndsWithin 1_000_000_000_000) (sym (c.wide_span.ensures named refl stands)) (zone_in c.args.grid.now state named barrier blocks angles zone same c.requires.shares)
