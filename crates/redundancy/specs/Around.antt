-- Bounds on both sides of 0: a word of tests, which nobody need believe.
use Rattle.std.specs.Prelude.{◌^◌, pos, ◌≤ℤ◌}
use Rattle.whole_laws.specs.Sums.{IsWithin}
use Rattle.fb_types.specs.declared.rows.Bounds.{Bounds}

pub record IsAround (b : Bounds) : Type 0 where
  pub low : IsWithin (10 ^ 11) b.low
  pub high : IsWithin (10 ^ 11) b.high
  pub below : b.low ≤ℤ pos 0
  pub above : pos 0 ≤ℤ b.high
