-- Words of private contracts on rows at points, which nobody need believe.
use Rattle.std.specs.Prelude.{◌≡◌, ℕ, ◌<◌, ◌^◌, Bool, true, ℤ, pos, ◌-ℤ◌, ◌*ℤ◌, List, length}
use Rattle.whole_laws.specs.Sums.{sum_below, at}
use Rattle.fb_types.specs.Domain.{IsPoint, Meets, Follows}
use Rattle.fb_types.specs.declared.rows.Bounds.{Bounds}
use Rattle.fb_types.specs.declared.rows.Half.{Half}
use Rattle.fb_types.specs.declared.rows.Multipliers.{Multipliers}
use Rattle.multiplier_search.specs.Tries.{is_kept, CitesKept}
use Rattle.redundancy.specs.Thinned.{row_of}

-- the first n terms of a row's sum at a point
abbrev pub value_below : Half → List ℤ → ℕ → ℤ
value_below row x n = sum_below n (λ z. at row.a z *ℤ at x z)

-- what a row leaves at a point
abbrev pub slack_at : Half → List ℤ → ℤ
slack_at row x = (row.r *ℤ pos (10 ^ 12)) -ℤ value_below row x (length x)

-- what each row leaves at some point
pub record IsColumn (rows : List Half) (bounds : List Bounds) (column : List ℤ) : Type 0 where
  pub long : length column ≡ length rows
  pub point : List ℤ
  pub is_point : IsPoint bounds point
  pub slacks : (k : ℕ) → k < length rows → at column k ≡ slack_at (row_of rows k) point

-- each kept row holds at x
pub record MeetsKept (rows : List Half) (kept : List Bool) (x : List ℤ) : Type 0 where
  pub each : (k : ℕ) → k < length rows → is_kept kept k ≡ true → Meets (row_of rows k) x

-- no multipliers of kept rows prove the target
pub record IsRefuted (target : Half) (rows : List Half) (kept : List Bool) (bounds : List Bounds) : Type 0 where
  pub never : (by : Multipliers) → CitesKept kept by.mults → Follows target rows by bounds → ⊥
