-- Spans by shares: the spans times their shares, added up and divided by the sum of the shares, in a type of whole numbers.
-- Nobody need read this to know what a domain promises.
use Rattle.std.specs.Prelude.{◌≡◌, ℕ, ◌≤◌, ℤ, pos, ◌+ℤ◌, ◌*ℤ◌, List, map, take, length, Option, Some, None}
use Rattle.std.specs.List.{All}
use Rattle.whole_laws.specs.Quotients.{floor_of, ceil_of}
use Rattle.whole_laws.specs.Sums.{sum_over}
use Rattle.fb_span.specs.Exact.{IsFrom}
use Rattle.fb_types.specs.declared.keys.Block.{Block}
use Rattle.fb_types.specs.declared.rows.Angles.{Angles}
use Rattle.grid_state.specs.GridState.{GridState}
use Rattle.security.specs.Flows.{NumberedBranch}
use Rattle.zonal_factors.specs.FactorSpans.{block_span_of}

-- a span and its share
abbrev pub Part : Type 0
Part = (ℤ × ℤ) × ℤ

-- the low ends by their shares, added up; the same of the high ends; and the sum of the shares
abbrev pub low_sum : List Part → ℤ
low_sum parts = sum_over (λ z. z.1 *ℤ z.0.0) parts

abbrev pub high_sum : List Part → ℤ
high_sum parts = sum_over (λ z. z.1 *ℤ z.0.1) parts

abbrev pub share_sum : List Part → ℤ
share_sum parts = sum_over (λ z. z.1) parts

-- the sum of the spans by their shares, over the sum of the shares, rounded outwards
abbrev pub shared_of : List Part → ℤ × ℤ
shared_of parts = (floor_of (low_sum parts) (share_sum parts), ceil_of (high_sum parts) (share_sum parts))

-- the ends of a span, its share and the products of the share with the ends are from `low` to `high`
pub record PartFits (low high : ℤ) (part : Part) : Type 0 where
  pub low_end : IsFrom low high part.0.0
  pub high_end : IsFrom low high part.0.1
  pub share : IsFrom low high part.1
  pub low_product : IsFrom low high (part.1 *ℤ part.0.0)
  pub high_product : IsFrom low high (part.1 *ℤ part.0.1)

-- so are those of each part, the sums of the products of the first k parts, for each k, and the sum of the shares
pub record SharedFits (low high : ℤ) (parts : List Part) : Type 0 where
  pub each : All (PartFits low high) parts
  pub low_sums : (k : ℕ) → k ≤ length parts → IsFrom low high (low_sum (take k parts))
  pub high_sums : (k : ℕ) → k ≤ length parts → IsFrom low high (high_sum (take k parts))
  pub divisor : IsFrom low high (share_sum parts)

-- the sum over the sum of the shares, and none exactly where a number on the way is past the type
abbrev pub IsShared : {T : Type 0} → (T → ℤ) → ℤ → ℤ → Option (T × T) → List Part → Type 0
IsShared whole low high (Some s) parts = (whole s.0 ≡ (shared_of parts).0) × (whole s.1 ≡ (shared_of parts).1) × SharedFits low high parts
IsShared whole low high None parts = ¬ (SharedFits low high parts)

-- ---- Part by part

-- the sums of some parts: of the low ends by the shares, of the high ends, and of the shares
pub record Sums : Type 0 where
  pub low : ℤ
  pub high : ℤ
  pub shares : ℤ

-- the sums that a span and the sum of the shares stand for
abbrev pub sums_of : {T : Type 0} → (T → ℤ) → T × T → T → Sums
sums_of whole total weight = record { low = whole total.0; high = whole total.1; shares = whole weight }

-- the sums of no parts
abbrev pub no_sums : Sums
no_sums = record { low = pos 0; high = pos 0; shares = pos 0 }

-- the sums with one part more
abbrev pub with_part : Sums → Part → Sums
with_part sums part = record { low = sums.low +ℤ part.1 *ℤ part.0.0; high = sums.high +ℤ part.1 *ℤ part.0.1; shares = sums.shares +ℤ part.1 }

-- the numbers of the part, and the sums with it, are from `low` to `high`
pub record StepFits (low high : ℤ) (sums : Sums) (part : Part) : Type 0 where
  pub part_fits : PartFits low high part
  pub low_sum : IsFrom low high (with_part sums part).low
  pub high_sum : IsFrom low high (with_part sums part).high
  pub shares : IsFrom low high (with_part sums part).shares

-- ---- The blocks of a zone

-- each block's span with its share
abbrev pub parts_of : GridState → NumberedBranch → List ℤ → List (Block × Angles) → List Part
parts_of s c v blocks = map (λ z. (block_span_of s c v z.0 z.1, z.0.share)) blocks
