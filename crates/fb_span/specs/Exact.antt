-- Whole numbers of a type that holds them from a least to a greatest.
use Rattle.std.specs.Prelude.{◌≡◌, ℤ, ◌≤ℤ◌, Option, Some, None}

-- low ≤ z ≤ high
pub record IsFrom (low high z : ℤ) : Type 0 where
  pub above : low ≤ℤ z
  pub below : z ≤ℤ high

-- the value that stands for z, and none exactly where z is not from `low` to `high`
abbrev pub IsExactly : {T : Type 0} → (T → ℤ) → ℤ → ℤ → Option T → ℤ → Type 0
IsExactly whole low high (Some x) z = (whole x ≡ z) × IsFrom low high z
IsExactly whole low high None z = ¬ (IsFrom low high z)
