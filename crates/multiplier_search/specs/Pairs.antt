-- What the tries answer, before it is put into multipliers: words of private contracts, which nobody need believe.
use Rattle.std.specs.Prelude.{◌≡◌, ℕ, ◌-◌, ◌^◌, ◌<◌, ◌≤◌, Bool, true, List}
use Rattle.whole_laws.specs.Sums.{IsWithin}
use Rattle.fb_types.specs.Domain.{IsRow}
use Rattle.fb_types.specs.declared.rows.Bounds.{Bounds}
use Rattle.fb_types.specs.declared.rows.Half.{Half}
use Rattle.multiplier_search.specs.Corners.{IsCovered}
use Rattle.multiplier_search.specs.Found.{one_of, pair_of}
use Rattle.multiplier_search.specs.Tries.{is_kept}
use Rattle.multiplier_search.specs.declared.tries.OneRow.{OneRow}
use Rattle.multiplier_search.specs.declared.tries.Share.{Share}
use Rattle.multiplier_search.specs.declared.tries.TwoRows.{TwoRows}

-- a kept row at 10^9 that covers the target
pub record IsOne (target : Half) (rows : List Half) (kept : List Bool) (bounds : List Bounds) (one : OneRow) : Type 0 where
  pub is_row : IsRow rows one.row
  pub is_kept : is_kept kept (one.row - 1) ≡ true
  pub balance : IsWithin (10 ^ 24) one.mu
  pub covers : IsCovered target rows (one_of one.row) bounds one.mu

-- a share of two rows that covers it
pub record IsShare (target : Half) (rows : List Half) (bounds : List Bounds) (first second : ℕ) (share : Share) : Type 0 where
  pub some : 1 ≤ share.tenths
  pub within : share.tenths < 10
  pub balance : IsWithin (10 ^ 24) share.mu
  pub covers : IsCovered target rows (pair_of first second share.tenths) bounds share.mu

-- two kept rows with a share that cover it
pub record IsPair (target : Half) (rows : List Half) (kept : List Bool) (bounds : List Bounds) (two : TwoRows) : Type 0 where
  pub first_is_row : IsRow rows two.first
  pub second_is_row : IsRow rows two.second
  pub first_is_kept : is_kept kept (two.first - 1) ≡ true
  pub second_is_kept : is_kept kept (two.second - 1) ≡ true
  pub rising : two.first < two.second
  pub some : 1 ≤ two.tenths
  pub share : two.tenths < 10
  pub balance : IsWithin (10 ^ 24) two.mu
  pub covers : IsCovered target rows (pair_of two.first two.second two.tenths) bounds two.mu
