-- Words of private contracts on the passes that keep rows, which nobody need believe.
use Rattle.std.specs.Prelude.{◌≡◌, ℕ, ◌+◌, ◌<◌, Bool, true, false, List, length}
use Rattle.fb_types.specs.declared.rows.Bounds.{Bounds}
use Rattle.fb_types.specs.declared.rows.Half.{Half}
use Rattle.multiplier_search.specs.Found.{none_of, one_of}
use Rattle.multiplier_search.specs.Tries.{is_kept, IsUncovered}
use Rattle.redundancy.specs.Thinned.{row_of}

-- the row at k never follows from the box, and never from the row at j
abbrev pub IsNotIdle : List Half → List Bounds → ℕ → Type 0
IsNotIdle rows bounds k = IsUncovered (row_of rows k) rows none_of bounds

abbrev pub IsFree : List Half → List Bounds → ℕ → ℕ → Type 0
IsFree rows bounds k j = IsUncovered (row_of rows k) rows (one_of (j + 1)) bounds

-- it cannot be that the row at k follows neither from the box nor from a kept row
pub record IsExplained (rows : List Half) (bounds : List Bounds) (kept : List Bool) (n k : ℕ) : Type 0 where
  pub explained : IsNotIdle rows bounds k → ((j : ℕ) → j < n → is_kept kept j ≡ true → IsFree rows bounds k j) → ⊥

-- of the first n rows, those kept follow neither from the box nor from a kept row before them, and the others do
pub record IsForward (rows : List Half) (bounds : List Bounds) (kept : List Bool) (n : ℕ) : Type 0 where
  pub box : (k : ℕ) → k < n → is_kept kept k ≡ true → IsNotIdle rows bounds k
  pub earlier : (j k : ℕ) → j < k → k < n → is_kept kept j ≡ true → is_kept kept k ≡ true → IsFree rows bounds k j
  pub others : (k : ℕ) → k < n → is_kept kept k ≡ false → IsExplained rows bounds kept n k

-- and from the row at i on, those kept follow from no kept row after them
pub record IsBackward (rows : List Half) (bounds : List Bounds) (kept : List Bool) (i : ℕ) : Type 0 where
  pub forward : IsForward rows bounds kept (length rows)
  pub later : (k j : ℕ) → i < k + 1 → k < j → j < length rows → is_kept kept k ≡ true → is_kept kept j ≡ true → IsFree rows bounds k j
