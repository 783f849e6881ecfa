-- How far the two right sides of a row can be apart, and how near the threshold the spread of a row is whose selection is left open.
-- Both bounds are computed from the grid state and the row's branch alone: no angle of a proof, no span and no coefficient stands in
-- them. With H the reach of the state, b the susceptance of the branch and y = b·H/10^12, a domain knows each exact angle within
-- 4·H and each flow within 8·b·H, so a factor within 8·y + 4 of 10^-12, and two right sides are less than 60·y + 39 W apart.
use Rattle.std.specs.Prelude.{ℕ, ◌*◌, ℤ, pos, ◌+ℤ◌, ◌-ℤ◌, ◌*ℤ◌, ◌≤ℤ◌, unsigned_abs}
use Rattle.whole_laws.specs.Quotients.{ceil_of}
use Rattle.fractions.specs.Fractions.{Fraction}
use Rattle.fractions.specs.Spans.{LiesAt}
use Rattle.fb_types.specs.declared.grid.Branch.{Branch}
use Rattle.grid_state.specs.GridState.{GridState}
use Rattle.grid_laplacian.specs.Ranges.{reach_of}

-- b·H: the size of the branch's susceptance, in kW/rad, times the reach of the state
abbrev pub stretch_of : GridState → Branch → ℕ
stretch_of s branch = unsigned_abs branch.b * reach_of s

-- 1024 + ceil(64·b·H/10^12), in watts
abbrev pub gap_bound_of : GridState → Branch → ℤ
gap_bound_of s branch = pos 1024 +ℤ ceil_of (pos (64 * stretch_of s branch)) (pos 1_000_000_000_000)

-- 8 + ceil(16·b·H/10^12), in 10^-12
abbrev pub doubt_band_of : GridState → Branch → ℤ
doubt_band_of s branch = pos 8 +ℤ ceil_of (pos (16 * stretch_of s branch)) (pos 1_000_000_000_000)

-- the gap of a row, the outer right side less the inner one, is at least 0 and at most its bound
pub record HasSmallGap (s : GridState) (branch : Branch) (r_in r_out : ℤ) : Type 0 where
  pub some : pos 0 ≤ℤ (r_out -ℤ r_in)
  pub bounded : (r_out -ℤ r_in) ≤ℤ gap_bound_of s branch

-- a spread is no further from the threshold, which is in thousandths, than the band
abbrev pub IsNearThreshold : GridState → Branch → ℕ → Fraction → Type 0
IsNearThreshold s branch threshold spread =
    let level = pos threshold *ℤ pos 1_000_000_000 in
    LiesAt (pos 1_000_000_000_000) (level -ℤ doubt_band_of s branch, level +ℤ doubt_band_of s branch) spread
