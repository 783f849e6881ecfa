-- Quotients by a positive whole number, rounded down and up.
use Rattle.std.specs.Prelude.{ℤ, neg_ℤ}
use Rattle.std.specs.Int.{int_div_euclid}

-- the greatest whole number that is at most z/d
abbrev pub floor_of : ℤ → ℤ → ℤ
floor_of z d = int_div_euclid z d

-- the least whole number that is at least z/d
abbrev pub ceil_of : ℤ → ℤ → ℤ
ceil_of z d = neg_ℤ (int_div_euclid (neg_ℤ z) d)
