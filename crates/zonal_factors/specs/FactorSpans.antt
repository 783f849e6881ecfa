-- The span of a zonal factor, in 10^-12. Nobody need read this to know what a domain promises.
-- It comes from a barrier and the enclosed angles of the blocks of the zone's shift key.
use Rattle.std.specs.Prelude.{◌≡◌, ℕ, ◌<◌, ℤ, pos, neg_ℤ, ◌*ℤ◌, ◌≤ℤ◌, List, take, drop, length, All, if◌then◌else◌}
use Rattle.std.specs.Int.{int_max, int_min}
use Rattle.std.specs.List.{AllZip, zip}
use Rattle.whole_laws.specs.Quotients.{floor_of, ceil_of}
use Rattle.whole_laws.specs.Sums.{sum_over}
use Rattle.fractions.specs.Spans.{LiesAt}
use Rattle.fb_types.specs.declared.keys.Block.{Block}
use Rattle.fb_types.specs.declared.keys.Column.{Column}
use Rattle.fb_types.specs.declared.rows.Angles.{Angles}
use Rattle.grid_state.specs.GridState.{GridState, carries_at}
use Rattle.grid_laplacian.specs.Enclosures.{EnclosesColumn}
use Rattle.security.specs.Balances.{block_side}
use Rattle.security.specs.Flows.{ExactAngles, NumberedBranch, factor_of, AreAnglesOfKey}
use Rattle.branch_spans.specs.FlowSpans.{flow_span_of}

-- the number of 10^-12 in one
abbrev pub trillion : ℤ
trillion = pos 1000000000000

-- floor(b·(d − e)/(10·W)) to ceil(b·(d + e)/(10·W)), met with −10^12 to 10^12, W being the total of the block
abbrev pub block_span_of : GridState → NumberedBranch → List ℤ → Block → Angles → ℤ × ℤ
block_span_of s c v block angles = (
  int_max (floor_of (flow_span_of s c.branch v angles).0 (pos 10 *ℤ block.total)) (neg_ℤ trillion),
  int_min (ceil_of (flow_span_of s c.branch v angles).1 (pos 10 *ℤ block.total)) trillion,
)

-- the same times the share of the block
abbrev pub share_span_of : GridState → NumberedBranch → List ℤ → Block → Angles → ℤ × ℤ
share_span_of s c v block angles = (block.share *ℤ (block_span_of s c v block angles).0, block.share *ℤ (block_span_of s c v block angles).1)

-- floor(sum of share·low / 10^8) to ceil(sum of share·high / 10^8), over the blocks with their angles
abbrev pub zone_span_of : GridState → NumberedBranch → List ℤ → List (Block × Angles) → ℤ × ℤ
zone_span_of s c v blocks = (
  floor_of (sum_over (λ z. (share_span_of s c v z.0 z.1).0) blocks) (pos 100000000),
  ceil_of (sum_over (λ z. (share_span_of s c v z.0 z.1).1) blocks) (pos 100000000),
)

-- the angles of a column's blocks stand in a list from a place on
abbrev pub angles_from : List Angles → ℕ → ℕ → List Angles
angles_from angles first count = take count (drop first angles)

-- the span of the factor; 0 for a branch that does not carry
abbrev pub factor_span_of : GridState → NumberedBranch → List ℤ → Column → List Angles → ℕ → ℤ × ℤ
factor_span_of s c v column angles first =
    if carries_at s c.number then zone_span_of s c v (zip column.blocks (angles_from angles first (length column.blocks))) else (pos 0, pos 0)

-- ---- What a key is to be

-- weights of at least 0, which add up to the total, from 1 to 10^12
pub record IsBlock (block : Block) : Type 0 where
  pub weights : All (λ w. pos 0 ≤ℤ w.weight) block.weights
  pub total : block.total ≡ sum_over (λ w. w.weight) block.weights
  pub some : pos 1 ≤ℤ block.total
  pub small : block.total ≤ℤ pos 1000000000000
  pub share : pos 0 ≤ℤ block.share

-- such blocks, whose shares add up to 10^8; or no block
pub record IsKey (column : Column) : Type 0 where
  pub blocks : All IsBlock column.blocks
  pub shares : 0 < length column.blocks → sum_over (λ b. b.share) column.blocks ≡ pos 100000000

-- each block has enclosed angles of its weights, from a place of the list on
abbrev pub EnclosesKey : GridState → Column → List Angles → ℕ → Type 0
EnclosesKey s column angles first = AllZip (λ block a. EnclosesColumn s (block_side s block) a) column.blocks (angles_from angles first (length column.blocks))

-- the span holds the exact factor, however its exact angles are written
abbrev pub HoldsFactor : GridState → NumberedBranch → Column → ℤ × ℤ → Type 0
HoldsFactor s c column span = (es : List ExactAngles) → AreAnglesOfKey s column es → LiesAt trillion span (factor_of s c column es)
