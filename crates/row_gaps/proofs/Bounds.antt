-- The gap of a row is within its bound, and its spread within the band where the row is doubtful.
use Rattle.std.proofs.Common.{◌≡◌, ℕ, ◌+◌, ◌*◌, ◌^◌, Bool, true, false, cond, List, [], ◌∷◌, ℤ, pos, ◌+ℤ◌, ◌-ℤ◌, ◌*ℤ◌, ◌≤ℤ◌, ◌<ℤ◌, int_le, int_lt, refl, arith}
use Rattle.std.proofs.lemmas.Int.{ints, clamps}
use Rattle.std.specs.Int.{int_max, int_min}
use Rattle.whole_laws.specs.Ring.{ring, linear, cancel-<}
use Rattle.whole_laws.specs.Quotients.{ceil_of}
use Rattle.whole_laws.specs.QuotientLaws.{ceil-high, floor-at_most-ceil}
use Rattle.fractions.specs.SpanLaws.{Lies_wider}
use Rattle.fb_types.specs.declared.grid.Grid.{Grid}
use Rattle.fb_types.specs.declared.rows.Bounds.{Bounds}
use Rattle.grid_state.specs.GridState.{GridState, IsSound}
use Rattle.grid_laplacian.specs.Ranges.{IsOfGrid, IsInRange}
use Rattle.cnec_selection.specs.Classes.{level_of, class_of}
use Rattle.cnec_selection.specs.declared.Class.TheVariants.{Below, Doubtful, Certain}
use Rattle.domain_rows.specs.Brackets.{trillion, deviation_of, least_deviation, greatest_deviation, inner_side, outer_side}
use Rattle.cnec_rows.specs.RowNumbers.{factor_spans, of_core, row_spans_of, row_proof_of}
use Rattle.row_gaps.specs.Narrow.{width_of, IsOrdered}
use Rattle.security.specs.Gaps.{stretch_of}
use Rattle.row_gaps.specs.Widths.{spread_most}
use Rattle.row_gaps.specs.GapLaws.{RowsAreNarrow, GapsAreSmall, DoubtsAreNear}
use Rattle.row_gaps.proofs.Held.{numbers_held}
use Rattle.row_gaps.proofs.Rows.{rows_are_narrow}

-- ---- rounded bounds

-- less than m/t is at most r + ceil(k/t), where m is at most r·t + k
rounded : (t z m k r : ℤ) → pos 0 <ℤ t → (t *ℤ z) <ℤ m → m ≤ℤ (t *ℤ r +ℤ k) → z ≤ℤ (r +ℤ ceil_of k t)
rounded t z m k r some h le =
    let up = ceil-high k t some in
    let e : t *ℤ (r +ℤ ceil_of k t) ≡ t *ℤ r +ℤ ceil_of k t *ℤ t = parted t r (ceil_of k t) in
    let l = cancel-< t z (r +ℤ ceil_of k t) some (omega (arith, linear, up, e, h, le)) in
    omega (arith, linear, l)
  where
    parted : (t r c : ℤ) → t *ℤ (r +ℤ c) ≡ t *ℤ r +ℤ c *ℤ t
    parted t r c = simp ring

gap_rounded : (n : ℕ) (z : ℤ) → (trillion *ℤ z) <ℤ pos (60 * n + 39 * 10 ^ 12)
    → z ≤ℤ (pos 1024 +ℤ ceil_of (pos (64 * n)) trillion)
gap_rounded n z h =
    rounded trillion z (pos (60 * n + 39 * 10 ^ 12)) (pos (64 * n)) (pos 1024) (record { lt = tt }) h
    (omega (arith, ints))

band_rounded : (n : ℕ) (z : ℤ) → (trillion *ℤ z) <ℤ spread_most n → z ≤ℤ (pos 8 +ℤ ceil_of (pos (16 * n)) trillion)
band_rounded n z h =
    rounded trillion z (spread_most n) (pos (16 * n)) (pos 8) (record { lt = tt }) h (omega (arith, ints))

-- ---- the gap is not negative

deviations_ordered : (ss : List (ℤ × ℤ)) (bs : List Bounds) → least_deviation ss bs ≤ℤ greatest_deviation ss bs
deviations_ordered [] bs = omega (arith, ints)
deviations_ordered (s ∷ ss) [] = omega (arith, ints)
deviations_ordered (s ∷ ss) (b ∷ bs) =
    both ((deviation_of s).0 *ℤ b.low) ((deviation_of s).0 *ℤ b.high) ((deviation_of s).1 *ℤ b.low)
    ((deviation_of s).1 *ℤ b.high) (least_deviation ss bs) (greatest_deviation ss bs) (deviations_ordered ss bs)
  where
    both : (p q r t x y : ℤ) → x ≤ℤ y
        → (int_min (int_min p q) (int_min r t) +ℤ x) ≤ℤ (int_max (int_max p q) (int_max r t) +ℤ y)
    both p q r t x y h = omega (arith, linear, clamps, h)

sides_ordered : (ss : List (ℤ × ℤ)) (bs : List Bounds) (ram : ℤ × ℤ) → IsOrdered ram
    → inner_side ss bs ram ≤ℤ outer_side ss bs ram
sides_ordered ss bs ram h =
    let d = deviations_ordered ss bs in
    floor-at_most-ceil (ram.0 -ℤ greatest_deviation ss bs) (ram.1 -ℤ least_deviation ss bs) trillion
    (record { lt = tt }) (omega (arith, linear, h, d))

-- ---- a doubtful row has the threshold in the span of its spread

record HasThreshold (span : ℤ × ℤ) (t : ℕ) : Type 0 where
  low : span.0 <ℤ level_of t
  high : level_of t ≤ℤ span.1

doubtful_spread : (span : ℤ × ℤ) (t : ℕ) → class_of span t ≡ Doubtful → HasThreshold span t
doubtful_spread span t e = by_below (int_lt span.1 (level_of t)) refl e
  where
    by_certain : (b : Bool) → int_le (level_of t) span.0 ≡ b → level_of t ≤ℤ span.1 → cond b Certain Doubtful ≡ Doubtful
        → HasThreshold span t
    by_certain true is high e = absurd (cc)
    by_certain false is high e = record { low = omega (arith, ints, is); high = high }

    by_below : (b : Bool) → int_lt span.1 (level_of t) ≡ b
        → cond b Below (cond (int_le (level_of t) span.0) Certain Doubtful) ≡ Doubtful → HasThreshold span t
    by_below true is e = absurd (cc)
    by_below false is e = by_certain (int_le (level_of t) span.0) refl (omega (arith, ints, is)) e

-- ---- the laws

module _ (s : GridState) (grid : Grid) (sound : IsSound s) (of : IsOfGrid grid s) (range : IsInRange grid s) where
  pub rows_narrow : RowsAreNarrow s grid
  rows_narrow columns zones terms c proof proved stands =
      rows_are_narrow grid s c sound of range stands columns zones terms proof proved

  pub gaps_small : GapsAreSmall s grid
  gaps_small columns zones terms c proof proved stands =
      let narrow = rows_narrow columns zones terms c proof proved stands in
      let row = row_proof_of s columns zones terms c proof in
      let ordered =
      sides_ordered (of_core zones.core (factor_spans s c terms.against columns proof)) zones.bounds
      (row_spans_of s columns zones terms c proof).ram narrow.ram_ordered in
      record {
        some = omega (arith, linear, ordered);
        bounded = gap_rounded (stretch_of s c.branch) (row.r_out -ℤ row.r_in) narrow.gap;
      }

  pub doubts_near : DoubtsAreNear s grid
  doubts_near columns zones terms c proof proved stands doubtful choice ok =
      let narrow = rows_narrow columns zones terms c proof proved stands in
      let spread = (row_spans_of s columns zones terms c proof).spread in
      let held = (numbers_held grid s c sound of range stands columns zones terms proof proved).spread choice ok in
      let there = doubtful_spread spread terms.threshold doubtful in
      let width = band_rounded (stretch_of s c.branch) (width_of spread) narrow.spread in
      let low = there.low in
      let high = there.high in
      Lies_wider spread.0 spread.1 _ _ (omega (arith, linear, width, low, high))
      (omega (arith, linear, width, low, high)) held
