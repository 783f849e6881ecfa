-- The numbers of a proof of a grid state are in range.
use Rattle.std.proofs.Common.{◌≡◌, suc, ◌*◌, ◌^◌, ◌≤◌, List, [], ◌∷◌, length, All, nat_abs, ℤ, pos, ◌≤ℤ◌, refl, ap, arith}
use Rattle.std.specs.List.{AllZip}
use Rattle.std.proofs.lemmas.Int.{ints}
use Rattle.std.proofs.lemmas.List.Elements.{All-from_get_or, All-cons, All-nil}
use Rattle.whole_laws.specs.Sums.{at, IsWithin}
use Rattle.fb_types.specs.declared.grid.Grid.{Grid}
use Rattle.fb_types.specs.declared.keys.Block.{Block}
use Rattle.fb_types.specs.declared.rows.Angles.{Angles}
use Rattle.grid_state.specs.GridState.{GridState, classes_of, IsSound}
use Rattle.grid_laplacian.specs.Ranges.{IsInRange}
use Rattle.grid_laplacian.specs.Enclosures.{EnclosesColumn}
use Rattle.security.specs.Balances.{block_side}
use Rattle.branch_spans.proofs.Sizes.{barrier_within, angle_within}
use Rattle.state_proofs.specs.StateProofs.{all_blocks}
use Rattle.row_gaps.specs.ProofRanges.{IsColumnInRange, ProofsAreInRange}

column_in_range : (grid : Grid) (s : GridState) → IsSound s → IsInRange grid s → (p : List ℤ) (angles : Angles)
    → EnclosesColumn s p angles → IsColumnInRange (classes_of s) angles
column_in_range grid s sound range p angles encloses = record {
  kappa = encloses.at_most_one;
  each_class = encloses.each_class;
  numbers = All-from_get_or (λ z. nat_abs z ≤ 2 ^ 121) angles.w (pos 0)
      (λ i l. angle_within s sound range.room angles (record { side = p; encloses = encloses }) i (let long = encloses.each_class in omega (arith, l, long)));
}

blocks_in_range : (grid : Grid) (s : GridState) → IsSound s → IsInRange grid s
    → (blocks : List Block) (as' : List Angles) → AllZip (λ b a. EnclosesColumn s (block_side s b) a) blocks as'
    → (length as' ≡ length blocks) × All (IsColumnInRange (classes_of s)) as'
blocks_in_range grid s sound range [] [] h = (refl, All-nil (IsColumnInRange (classes_of s)))
blocks_in_range grid s sound range [] (a ∷ as') h = absurd h
blocks_in_range grid s sound range (b ∷ blocks) [] h = absurd h
blocks_in_range grid s sound range (b ∷ blocks) (a ∷ as') h =
    let rest = blocks_in_range grid s sound range blocks as' h.1 in
    (ap suc rest.0, All-cons (IsColumnInRange (classes_of s)) a as' (column_in_range grid s sound range (block_side s b) a h.0) rest.1)

pub proofs_in_range : (s : GridState) (grid : Grid) → IsSound s → IsInRange grid s → ProofsAreInRange s grid
proofs_in_range s grid sound range columns proof is =
    let blocks = blocks_in_range grid s sound range (all_blocks columns) proof.blocks is.blocks in
    record {
      some = let below = sound.slack_below in omega (arith, below);
      each_class = is.barrier.each_class;
      barrier = All-from_get_or (IsWithin (6 * 10 ^ 14)) proof.barrier (pos 0)
          (λ i l. within (at proof.barrier i) (barrier_within s sound range.room proof.barrier is.barrier i (let long = is.barrier.each_class in omega (arith, l, long))));
      reference = column_in_range grid s sound range _ proof.reference is.reference;
      each_block = blocks.0;
      blocks = blocks.1;
    }
  where
    within : (z : ℤ) → (pos 0 ≤ℤ z) × (z ≤ℤ pos (6 * 10 ^ 14)) → IsWithin (6 * 10 ^ 14) z
    within z h = record { low = omega (arith, ints, h.0); high = h.1 }
