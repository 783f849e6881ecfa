-- What becomes of the rows of a list. Rows are counted from 0 here, and from 1 where multipliers cite them.
use Rattle.std.specs.Prelude.{⊤, ◌≡◌, ◌≢◌, ℕ, ◌+◌, ◌-◌, ◌<◌, ◌≤◌, ℤ, pos, List, [], length, Some, slice_get, slice_index_or}
use Rattle.std.specs.List.{All}
use Rattle.fb_types.specs.Domain.{Follows}
use Rattle.fb_types.specs.declared.rows.Bounds.{Bounds}
use Rattle.fb_types.specs.declared.rows.Half.{Half}
use Rattle.fb_types.specs.declared.rows.Mult.{Mult}
use Rattle.fb_types.specs.declared.rows.Multipliers.{Multipliers}
use Rattle.fb_types.specs.declared.rows.Fate.{Fate}
use Rattle.fb_types.specs.declared.rows.Fate.TheVariants.{Kept, Removed}
use Rattle.multiplier_search.specs.Found.{none_of, one_of, pair_of, with_balance}

-- the row at a place
abbrev pub row_of : List Half → ℕ → Half
row_of rows k = slice_index_or rows k (record { a = []; r = pos 0 })

abbrev pub IsKeptRow : List Fate → ℕ → Type 0
IsKeptRow fates k = slice_get fates k ≡ Some Kept

-- One fate for each row. A removed row follows by its multipliers and cites kept rows alone. No kept row follows, with any multiplier of
-- the balance, from the bounds alone, nor from one other kept row at 10^9.
pub record IsThinned (rows : List Half) (bounds : List Bounds) (fates : List Fate) : Type 0 where
  pub each : length fates ≡ length rows
  pub removed : (k : ℕ) (by : Multipliers) → slice_get fates k ≡ Some (Removed by) → Follows (row_of rows k) rows by bounds × All (λ m. IsKeptRow fates (m.row - 1)) by.mults
  pub box : (k : ℕ) (mu : ℤ) → IsKeptRow fates k → Follows (row_of rows k) rows (with_balance none_of mu) bounds → ⊥
  pub one : (j k : ℕ) (mu : ℤ) → j ≢ k → IsKeptRow fates j → IsKeptRow fates k → Follows (row_of rows k) rows (with_balance (one_of (j + 1)) mu) bounds → ⊥

-- no multiplier is of the row with this number
abbrev pub CitesOthers : ℕ → List Mult → Type 0
CitesOthers number mults = All (λ m. m.row ≢ number) mults

abbrev pub IsClear : ℕ → Fate → Type 0
IsClear number Kept = ⊤
IsClear number (Removed by) = CitesOthers number by.mults

-- no removed row cites the row at k
abbrev pub IsUncited : List Fate → ℕ → Type 0
IsUncited fates k = All (IsClear (k + 1)) fates

-- No kept row that no removed row cites follows, with any multiplier of the balance, from two other kept rows at tenths of 10^9 that add
-- up to it.
pub record IsSettled (rows : List Half) (bounds : List Bounds) (fates : List Fate) : Type 0 where
  pub pair : (k i j s : ℕ) (mu : ℤ) → IsKeptRow fates k → IsUncited fates k → IsKeptRow fates i → IsKeptRow fates j → i ≢ k → j ≢ k → 1 ≤ s → s < 10 → Follows (row_of rows k) rows (with_balance (pair_of (i + 1) (j + 1) s) mu) bounds → ⊥
