-- Laws, which are proved: nobody need believe them.
-- What follows of a count that rose, over several calls.
use Rattle.std.specs.Prelude.{ℕ, ◌≤◌}
use Rattle.std.proofs.Common.{arith}
use Rattle.fb_base.specs.Counts.{Rose}

-- a count that rose before some later calls
pub Rose-before : (old mid new : ℕ) → Rose old mid → old ≤ mid → mid ≤ new → Rose old new
Rose-before old mid new rose up later = grind arith

-- a count that rose after some earlier calls
pub Rose-after : (old mid new : ℕ) → old ≤ mid → Rose mid new → Rose old new
Rose-after old mid new up rose = grind arith
