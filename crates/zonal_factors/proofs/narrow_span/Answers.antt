use Rattle.std.proofs.Common.{ap₂, ◌∙◌}
use Rattle.std.specs.List.{zip}
use Rattle.fb_types.specs.declared.keys.Block.{Block}
use Rattle.fb_types.specs.declared.rows.Angles.{Angles}
use Rattle.grid_laplacian.specs.Enclosures.{EnclosesColumn}
use Rattle.security.specs.Balances.{block_side}
use Rattle.zonal_factors.specs.SharedSpans.{parts_of}
use Rattle.zonal_factors.proofs.Zones.{zip_length}
use Rattle.zonal_factors.proofs.Fits.{within_fits}
use Rattle.zonal_factors.proofs.ZoneParts.{shares_are, zone_is, some_shares, narrow_holds}
use Rattle.zonal_factors.proofs.narrow_span.Goals as goal

pub returns-clause-value : goal.returns-clause-value
returns-clause-value c = λ named number stands.
    let state = c.args.state.now in
    let barrier = c.args.barrier.now in
    let blocks = c.args.blocks.now in
    let angles = c.args.angles.now in
    let same = zip_length (λ (b : Block) (a : Angles). EnclosesColumn state (block_side state b) a) blocks angles c.requires.encloses in
    let shared = c.in_ok-span.ensures named number stands in
    c.wide.ensures ∙ ap₂ (λ x y. (x, y)) shared.0 shared.1 ∙ zone_is state named barrier blocks angles same c.requires.shares

pub returns-in_err-span-clause-small : goal.returns-in_err-span-clause-small
returns-in_err-span-clause-small c = λ named number stands small.
    let state = c.args.state.now in
    let barrier = c.args.barrier.now in
    let blocks = c.args.blocks.now in
    let angles = c.args.angles.now in
    let same = zip_length (λ (b : Block) (a : Angles). EnclosesColumn state (block_side state b) a) blocks angles c.requires.encloses in
    absurd (c.in_err-span.ensures named number stands
    (within_fits 90_000_000_000 100_000_000 _ _ (parts_of state named barrier (zip blocks angles)) narrow_holds small
    (some_shares state named barrier blocks angles c.requires.blocks) (shares_are state named barrier blocks angles same ∙ c.requires.shares)))
