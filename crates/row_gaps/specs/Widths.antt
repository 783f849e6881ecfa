-- How wide the spans of a row are at most, step by step: words of lemmas, which nobody need believe.
-- Widths are from the stretch b·H of the row's branch. Each is compared as unit·width < most, so that no quotient is
-- rounded; with y = b·H/10^12 the widths are those in the comments.
use Rattle.std.specs.Prelude.{ℕ, ◌+◌, ◌*◌, ◌^◌, ◌<◌, ℤ, pos, ◌-ℤ◌, ◌*ℤ◌, ◌≤ℤ◌, ◌<ℤ◌, List, All}
use Rattle.fb_types.specs.declared.keys.Column.{Column}
use Rattle.fb_types.specs.declared.rows.Angles.{Angles}
use Rattle.grid_state.specs.GridState.{GridState, classes_of}
use Rattle.grid_laplacian.specs.Ranges.{reach_of}
use Rattle.grid_laplacian.specs.Enclosures.{angle_span_of}
use Rattle.domain_rows.specs.Brackets.{trillion}
use Rattle.row_gaps.specs.Narrow.{width_of, IsNarrow, IsOrdered}
use Rattle.row_gaps.specs.WidthLaws.{deviation_width}
use Rattle.cnec_rows.specs.RowNumbers.{of_core}
use Rattle.cnec_rows.specs.declared.types.RowZones.{RowZones}
use Rattle.cnec_rows.specs.declared.types.RowSpans.{RowSpans}
use Rattle.cnec_rows.specs.declared.types.RowProof.{RowProof}

-- ---- Angles and flows

-- an angle: 4·H at most
abbrev pub AreAnglesNarrow : GridState → List ℤ → Angles → Type 0
AreAnglesNarrow s v angles = (i : ℕ) → i < classes_of s → width_of (angle_span_of v angles i) ≤ℤ pos (4 * reach_of s)

-- the flow of a branch, in 10^-13 W: 8·b·H at most
abbrev pub IsFlowNarrow : ℕ → ℤ × ℤ → Type 0
IsFlowNarrow stretch span = width_of span ≤ℤ pos (8 * stretch)

-- ---- Factors, in 10^-12

-- of a block: below 8·y + 2
abbrev pub block_most : ℕ → ℤ
block_most stretch = pos (8 * stretch + 2 * 10 ^ 12)

-- of a zone: below 8·y + 4
abbrev pub factor_most : ℕ → ℤ
factor_most stretch = pos (8 * stretch + 4 * 10 ^ 12)

-- the spread: below 16·y + 8
abbrev pub spread_most : ℕ → ℤ
spread_most stretch = pos (16 * stretch + 8 * 10 ^ 12)

-- ---- Flows and margins, in picowatts

-- the reference flow: below (0.8·b·H + 2) pW
abbrev pub reference_most : ℕ → ℤ
reference_most stretch = pos (8 * stretch + 20)

-- what exchanges of zones put on the row at the reference: at most (8·y + 4) W, since all net positions together are at
-- most 10^12 W
abbrev pub exchanges_most : ℕ → ℤ
exchanges_most stretch = pos (8 * stretch + 4 * 10 ^ 12)

-- the flow without exchanges, and the margin: below 8.8·y + 4 W and 2 pW
abbrev pub margin_most : ℕ → ℤ
margin_most stretch = pos (88 * stretch + 4 * 10 ^ 13 + 20)

-- what the coefficients deviate by, on both sides together: at most 51.2·y + 32 W
abbrev pub deviation_most : ℕ → ℤ
deviation_most stretch = pos (512 * stretch + 32 * 10 ^ 13)

-- ---- All of them

pub record AreNarrow (stretch : ℕ) (zones : RowZones) (factors : List (ℤ × ℤ)) (spans : RowSpans) (row : RowProof)
    : Type 0 where
  pub each_ordered : All IsOrdered factors
  pub each_factor : All (IsNarrow trillion (factor_most stretch)) factors
  pub fref_ordered : IsOrdered spans.fref
  pub fref : IsNarrow (pos 10) (reference_most stretch) spans.fref
  pub f0core : IsNarrow (pos 10) (margin_most stretch) spans.f0core
  pub f0all : IsNarrow (pos 10) (margin_most stretch) spans.f0all
  pub fuaf : width_of spans.fuaf ≤ℤ exchanges_most stretch
  pub ram_ordered : IsOrdered spans.ram
  pub ram : IsNarrow (pos 10) (margin_most stretch) spans.ram
  pub spread : IsNarrow trillion (spread_most stretch) spans.spread
  pub deviations : (pos 10 *ℤ deviation_width (of_core zones.core factors) zones.bounds) ≤ℤ deviation_most stretch
  -- below 60·y + 39 W
  pub gap : (trillion *ℤ (row.r_out -ℤ row.r_in)) <ℤ pos (60 * stretch + 39 * 10 ^ 12)

-- ---- What the keys are to be

-- the weights of each block add up to more than 10^11, as they do once they are scaled
pub record HasGreatTotals (column : Column) : Type 0 where
  pub each : All (λ block. pos (10 ^ 11) <ℤ block.total) column.blocks
