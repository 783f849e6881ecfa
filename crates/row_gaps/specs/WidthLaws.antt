-- How wide the spans of a row are, by those that they are made of: words of lemmas, which nobody need believe.
-- Factors are in 10^-12, flows and margins in picowatts, net positions and right sides in watts.
use Rattle.std.specs.Prelude.{ℤ, pos, ◌+ℤ◌, ◌-ℤ◌, ◌*ℤ◌, ◌≤ℤ◌, ◌<ℤ◌, List, All}
use Rattle.fb_types.specs.Domain.{AreBounds}
use Rattle.fb_types.specs.declared.rows.Bounds.{Bounds}
use Rattle.security.specs.Margins.{ElementNumbers}
use Rattle.ram_formulas.specs.MarginSpans.{margin_at}
use Rattle.cnec_selection.specs.SpreadSpans.{spread_low, spread_high}
use Rattle.domain_rows.specs.Brackets.{trillion, least_deviation, greatest_deviation, inner_side, outer_side}
use Rattle.row_gaps.specs.Narrow.{width_of, IsNarrow, IsOrdered}

-- the margin
abbrev pub MarginsAreNarrow : Type 0
MarginsAreNarrow =
    (e : ElementNumbers) (f0core fuaf : ℤ × ℤ) (unit most : ℤ) → pos 0 ≤ℤ unit → pos 0 <ℤ most
    → IsNarrow unit most f0core → IsNarrow unit most fuaf
    → IsNarrow unit most (margin_at e f0core.1 fuaf.1, margin_at e f0core.0 fuaf.0)

-- the spread
abbrev pub SpreadsAreNarrow : Type 0
SpreadsAreNarrow =
    (factors : List (ℤ × ℤ)) (unit most : ℤ) → pos 0 ≤ℤ unit → pos 0 <ℤ most → All (IsNarrow unit most) factors
    → IsNarrow unit (pos 2 *ℤ most) (spread_low factors, spread_high factors)

-- what the coefficients deviate by, on both sides together
abbrev pub deviation_width : List (ℤ × ℤ) → List Bounds → ℤ
deviation_width factors bounds = width_of (least_deviation factors bounds, greatest_deviation factors bounds)

-- Over at most 64 zones whose bounds are within 10^11 W it is below 6.4·(m + 1) W where each factor is narrower than m.
abbrev pub DeviationsAreSmall : Type 0
DeviationsAreSmall =
    (factors : List (ℤ × ℤ)) (bounds : List Bounds) (most : ℤ) → pos 0 <ℤ most → AreBounds bounds
    → All IsOrdered factors → All (IsNarrow trillion most) factors
    → (pos 10 *ℤ deviation_width factors bounds) ≤ℤ (pos 64 *ℤ (most +ℤ trillion))

-- the two right sides, in tenths of a picowatt: margin, deviations, and less than a watt of rounding at each side
abbrev pub SidesAreNear : Type 0
SidesAreNear =
    (factors : List (ℤ × ℤ)) (bounds : List Bounds) (ram : ℤ × ℤ) (margin deviation : ℤ)
    → IsNarrow (pos 10) margin ram
    → (pos 10 *ℤ deviation_width factors bounds) ≤ℤ deviation
    → ((pos 10 *ℤ trillion) *ℤ (outer_side factors bounds ram -ℤ inner_side factors bounds ram))
    <ℤ ((margin +ℤ deviation) +ℤ pos 20 *ℤ trillion)
