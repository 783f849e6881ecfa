-- How large the numbers of a proof of a grid state are: words of lemmas, which nobody need believe.
-- The size of a certificate's text follows: a number of a barrier has at most 15 digits, one of enclosed angles 37.
use Rattle.std.specs.Prelude.{◌≡◌, ℕ, ◌*◌, ◌^◌, ◌<◌, ◌≤◌, List, length, All, nat_abs}
use Rattle.whole_laws.specs.Sums.{IsWithin}
use Rattle.fb_types.specs.declared.grid.Grid.{Grid}
use Rattle.fb_types.specs.declared.keys.Column.{Column}
use Rattle.fb_types.specs.declared.rows.Angles.{Angles}
use Rattle.grid_state.specs.GridState.{GridState, classes_of}
use Rattle.state_proofs.specs.StateProofs.{IsStateProof, all_blocks}
use Rattle.state_proofs.specs.declared.StateProof.{StateProof}

-- a number for each of so many classes
pub record IsColumnInRange (classes : ℕ) (angles : Angles) : Type 0 where
  pub kappa : angles.kappa ≤ 1
  pub each_class : length angles.w ≡ classes
  pub numbers : All (λ z. nat_abs z ≤ 2 ^ 121) angles.w

pub record IsProofInRange (classes count : ℕ) (proof : StateProof) : Type 0 where
  pub some : 0 < classes
  pub each_class : length proof.barrier ≡ classes
  pub barrier : All (IsWithin (6 * 10 ^ 14)) proof.barrier
  pub reference : IsColumnInRange classes proof.reference
  pub each_block : length proof.blocks ≡ count
  pub blocks : All (IsColumnInRange classes) proof.blocks

-- for every proof of the state
abbrev pub ProofsAreInRange : GridState → Grid → Type 0
ProofsAreInRange s grid =
    (columns : List Column) (proof : StateProof) → IsStateProof s grid columns proof
    → IsProofInRange (classes_of s) (length (all_blocks columns)) proof
