-- The ends of a span.
use Rattle.std.specs.Prelude.{ℕ, ℤ}
use Rattle.whole_laws.specs.Sums.{IsWithin}
use Rattle.fb_span.specs.Exact.{IsFrom}

-- the ends of a span as whole numbers
abbrev pub ends_of : {T : Type 0} → (T → ℤ) → T × T → ℤ × ℤ
ends_of whole s = (whole s.0, whole s.1)

-- both ends are from -m to m
pub record EndsWithin (m : ℕ) (s : ℤ × ℤ) : Type 0 where
  pub low : IsWithin m s.0
  pub high : IsWithin m s.1

-- both ends are from `least` to `greatest`
pub record EndsFrom (least greatest : ℤ) (s : ℤ × ℤ) : Type 0 where
  pub low : IsFrom least greatest s.0
  pub high : IsFrom least greatest s.1
