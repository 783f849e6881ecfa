-- Words of private contracts: the enclosed angles of blocks, one after another. Nobody need believe them: the contract of
-- `prove_state` says what comes of them.
use Rattle.std.specs.Prelude.{List, ◌++◌}
use Rattle.std.specs.List.{AllZip}
use Rattle.fb_types.specs.declared.keys.Block.{Block}
use Rattle.fb_types.specs.declared.rows.Angles.{Angles}
use Rattle.grid_state.specs.GridState.{GridState}
use Rattle.grid_laplacian.specs.Enclosures.{EnclosesColumn}
use Rattle.security.specs.Balances.{block_side}

-- enclosed angles of each block
abbrev pub AreEnclosed : GridState → List Block → List Angles → Type 0
AreEnclosed s blocks angles = AllZip (λ block a. EnclosesColumn s (block_side s block) a) blocks angles

-- those of the blocks follow the ones that stood there, whichever blocks those are of
abbrev pub AddsEnclosed : GridState → List Block → List Angles → List Angles → Type 0
AddsEnclosed s blocks old new = (before : List Block) → AreEnclosed s before old → AreEnclosed s (before ++ blocks) new
