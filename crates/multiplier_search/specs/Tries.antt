-- What the search says of its tries: words of private contracts, which nobody need believe.
use Rattle.std.specs.Prelude.{◌≡◌, ℕ, ◌-◌, ◌*◌, ◌^◌, ◌<◌, ◌≤◌, ℤ, pos, ◌≤ℤ◌, Bool, true, false, List, slice_index_or}
use Rattle.std.specs.List.{All}
use Rattle.whole_laws.specs.Sums.{sum_over}
use Rattle.fb_types.specs.Domain.{Follows}
use Rattle.multiplier_search.specs.Corners.{IsCovered}
use Rattle.multiplier_search.specs.Found.{none_of, one_of, pair_of, with_balance}
use Rattle.fb_types.specs.declared.rows.Bounds.{Bounds}
use Rattle.fb_types.specs.declared.rows.Half.{Half}
use Rattle.fb_types.specs.declared.rows.Mult.{Mult}
use Rattle.fb_types.specs.declared.rows.Multipliers.{Multipliers}

-- with these multipliers every corner is within 10^24
pub record AreLight (mults : List Mult) : Type 0 where
  pub total : sum_over (λ m. m.value) mults ≤ℤ pos (9 * 10 ^ 11)

-- no multiplier of the balance serves
pub record IsUncovered (target : Half) (rows : List Half) (mults : List Mult) (bounds : List Bounds) : Type 0 where
  pub never : (mu : ℤ) → IsCovered target rows mults bounds mu → ⊥

-- ---- Kept rows: those that may be cited

abbrev pub is_kept : List Bool → ℕ → Bool
is_kept kept k = slice_index_or kept k false

abbrev pub CitesKept : List Bool → List Mult → Type 0
CitesKept kept mults = All (λ m. is_kept kept (m.row - 1) ≡ true) mults

-- multipliers prove the target from kept rows
pub record IsProof (target : Half) (rows : List Half) (kept : List Bool) (bounds : List Bounds) (by : Multipliers) : Type 0 where
  pub follows : Follows target rows by bounds
  pub cites : CitesKept kept by.mults

-- no multiplier, and none of one kept row at 10^9, proves the target
pub record IsAlone (target : Half) (rows : List Half) (kept : List Bool) (bounds : List Bounds) : Type 0 where
  pub none : (mu : ℤ) → Follows target rows (with_balance none_of mu) bounds → ⊥
  pub one : (number : ℕ) (mu : ℤ) → is_kept kept (number - 1) ≡ true → Follows target rows (with_balance (one_of number) mu) bounds → ⊥

-- no pair proof by two kept rows
pub record IsUnpaired (target : Half) (rows : List Half) (kept : List Bool) (bounds : List Bounds) : Type 0 where
  pub pair : (first second k : ℕ) (mu : ℤ) → is_kept kept (first - 1) ≡ true → is_kept kept (second - 1) ≡ true → 1 ≤ k → k < 10 → Follows target rows (with_balance (pair_of first second k) mu) bounds → ⊥
