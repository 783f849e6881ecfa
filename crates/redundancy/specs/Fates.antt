-- Words of private contracts on fates, which nobody need believe.
use Rattle.std.specs.Prelude.{◌≡◌, ◌≢◌, ℕ, suc, ◌+◌, ◌-◌, ◌<◌, ◌≤◌, Bool, true, false, ℤ, List, [], ◌∷◌, length}
use Rattle.std.specs.List.{All}
use Rattle.fb_types.specs.Domain.{Follows}
use Rattle.fb_types.specs.declared.rows.Bounds.{Bounds}
use Rattle.fb_types.specs.declared.rows.Half.{Half}
use Rattle.fb_types.specs.declared.rows.Multipliers.{Multipliers}
use Rattle.fb_types.specs.declared.rows.Fate.{Fate}
use Rattle.fb_types.specs.declared.rows.Fate.TheVariants.{Kept, Removed}
use Rattle.multiplier_search.specs.Found.{pair_of, with_balance}
use Rattle.multiplier_search.specs.Tries.{is_kept, CitesKept}
use Rattle.redundancy.specs.Thinned.{row_of, IsKeptRow, IsThinned, CitesOthers}

-- a removed row cites kept rows alone and follows from them
pub record IsRemoval (rows : List Half) (bounds : List Bounds) (kept : List Bool) (k : ℕ) (by : Multipliers) : Type 0 where
  pub gone : is_kept kept k ≡ false
  pub follows : Follows (row_of rows k) rows by bounds
  pub cites_kept : All (λ m. is_kept kept (m.row - 1) ≡ true) by.mults

-- the fate of the row at k, where the kept rows are those of the flags
abbrev pub IsFate : List Half → List Bounds → List Bool → ℕ → Fate → Type 0
IsFate rows bounds kept k Kept = is_kept kept k ≡ true
IsFate rows bounds kept k (Removed by) = IsRemoval rows bounds kept k by

-- the flags beside the fates: set for kept rows alone
pub record IsMask (fates : List Fate) (kept : List Bool) : Type 0 where
  pub long : length kept ≡ length fates
  pub flagged : (k : ℕ) → is_kept kept k ≡ true → IsKeptRow fates k
  pub all : (k : ℕ) → IsKeptRow fates k → is_kept kept k ≡ true

pub record IsState (rows : List Half) (bounds : List Bounds) (fates : List Fate) (kept : List Bool) : Type 0 where
  pub thinned : IsThinned rows bounds fates
  pub mask : IsMask fates kept

-- how many flags are set
abbrev pub count : List Bool → ℕ
count [] = 0
count (true ∷ kept) = suc (count kept)
count (false ∷ kept) = count kept

-- multipliers prove the row at i from kept rows other than the row at k
pub record IsProofWithout (rows : List Half) (bounds : List Bounds) (kept : List Bool) (i k : ℕ) (by : Multipliers) : Type 0 where
  pub follows : Follows (row_of rows i) rows by bounds
  pub cites : CitesKept kept by.mults
  pub others : CitesOthers (k + 1) by.mults

-- the row at k follows from no two other kept rows at tenths
pub record IsUnpairedRow (rows : List Half) (bounds : List Bounds) (kept : List Bool) (k : ℕ) : Type 0 where
  pub pair : (i j s : ℕ) (mu : ℤ) → is_kept kept i ≡ true → is_kept kept j ≡ true → i ≢ k → j ≢ k → 1 ≤ s → s < 10 → Follows (row_of rows k) rows (with_balance (pair_of (i + 1) (j + 1) s) mu) bounds → ⊥
