-- The conditions on multipliers that bound every sum of products with them.
use Rattle.std.specs.Prelude.{◌^◌, pos, ◌≤ℤ◌, List}
use Rattle.std.specs.List.{All}
use Rattle.whole_laws.specs.Sums.{sum_over}
use Rattle.fb_types.specs.Domain.{IsRow}
use Rattle.fb_types.specs.declared.rows.Half.{Half}
use Rattle.fb_types.specs.declared.rows.Mult.{Mult}

pub record AreWeights (rows : List Half) (mults : List Mult) : Type 0 where
  pub cited : All (λ m. IsRow rows m.row) mults
  pub nonnegative : All (λ m. pos 0 ≤ℤ m.value) mults
  pub total : sum_over (λ m. m.value) mults ≤ℤ pos (10 ^ 12)
