-- What is proved of a grid state: a barrier, and enclosed angles of the reference and of each block of the zones' shift keys.
use Rattle.std.specs.Prelude.{List}
use Rattle.std.specs.List.{AllZip, flat_map}
use Rattle.fb_types.specs.declared.grid.Grid.{Grid}
use Rattle.fb_types.specs.declared.keys.Block.{Block}
use Rattle.fb_types.specs.declared.keys.Column.{Column}
use Rattle.grid_state.specs.GridState.{GridState}
use Rattle.grid_laplacian.specs.Enclosures.{IsBarrier, EnclosesColumn}
use Rattle.security.specs.Balances.{reference_side, block_side}
use Rattle.state_proofs.specs.declared.StateProof.{StateProof}

-- the blocks of all zones: zone by zone, and within a zone in the order of its key
abbrev pub all_blocks : List Column → List Block
all_blocks columns = flat_map (λ c. c.blocks) columns

-- a barrier of the state, and enclosed angles of the reference and of each block
pub record IsStateProof (s : GridState) (grid : Grid) (columns : List Column) (proof : StateProof) : Type 0 where
  pub barrier : IsBarrier s proof.barrier
  pub reference : EnclosesColumn s (reference_side s grid) proof.reference
  pub blocks : AllZip (λ block angles. EnclosesColumn s (block_side s block) angles) (all_blocks columns) proof.blocks
