-- What the range rule gives for a right side that adds up to at most 2·10^25 in size.
use Rattle.std.proofs.Common.{◌≡◌, ℕ, ◌*◌, ◌^◌, ◌≤◌, max, List, length, ℤ, ap, ◌∙◌, arith}
use Rattle.std.proofs.lemmas.List.{length-map}
use Rattle.fb_types.specs.declared.grid.Grid.{Grid}
use Rattle.fb_types.specs.declared.keys.Block.{Block}
use Rattle.grid_state.specs.GridState.{GridState, classes_of}
use Rattle.grid_laplacian.specs.Sizes.{total_susceptance_of}
use Rattle.grid_laplacian.specs.Ranges.{HasRoomFor, greater_total_of}
use Rattle.grid_laplacian.proofs.SizeCondition.{room_for_less}
use Rattle.security.specs.Balances.{reference_side, block_side, base_balance, block_weights}
use Rattle.exact_flows.proofs.Listed.{length_classes}

pub in_total : (s : GridState) (total : ℕ) → total ≤ 2 * 10 ^ 25 → total ≤ greater_total_of s (2 * 10 ^ 25)
in_total s total h = less total (2 * 10 ^ 25) (2 * total_susceptance_of s) h
  where
    less : (x y z : ℕ) → x ≤ y → x ≤ max y z
    less x y z h = omega arith

pub room_for : (s : GridState) (total : ℕ) → HasRoomFor s (2 * 10 ^ 25) → total ≤ 2 * 10 ^ 25 → HasRoomFor s total
room_for s total room h = room_for_less s total (2 * 10 ^ 25) (in_total s total h) room

pub length_reference : (s : GridState) (grid : Grid) (p : List ℤ) → p ≡ reference_side s grid → length p ≡ classes_of s
length_reference s grid p e = ap length e ∙ length-map (base_balance s grid) _ ∙ length_classes s _

pub length_block : (s : GridState) (block : Block) (p : List ℤ) → p ≡ block_side s block → length p ≡ classes_of s
length_block s block p e = ap length e ∙ length-map (block_weights s block) _ ∙ length_classes s _
