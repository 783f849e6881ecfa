-- A kept row from which another follows: a word of private contracts, which nobody need believe.
use Rattle.std.specs.Prelude.{◌≡◌, ℕ, ◌-◌, ◌^◌, ◌<◌, ◌≤◌, Bool, true, List}
use Rattle.whole_laws.specs.Sums.{IsWithin}
use Rattle.multiplier_search.specs.Corners.{IsCovered}
use Rattle.fb_types.specs.declared.rows.Bounds.{Bounds}
use Rattle.fb_types.specs.declared.rows.Half.{Half}
use Rattle.multiplier_search.specs.declared.tries.OneRow.{OneRow}
use Rattle.multiplier_search.specs.Found.{one_of}
use Rattle.multiplier_search.specs.Tries.{is_kept}
use Rattle.redundancy.specs.Thinned.{row_of}

pub record IsSource (rows : List Half) (bounds : List Bounds) (kept : List Bool) (k low high : ℕ) (one : OneRow) : Type 0 where
  pub above : low < one.row
  pub within : one.row ≤ high
  pub is_kept : is_kept kept (one.row - 1) ≡ true
  pub balance : IsWithin (10 ^ 24) one.mu
  pub covers : IsCovered (row_of rows k) rows (one_of one.row) bounds one.mu
