-- The row of a proof is right.
use Rattle.std.proofs.Common.{◌≡◌, ℕ, Bool, true, false, cond, ℤ, int_le, int_lt, refl, arith}
use Rattle.std.proofs.lemmas.Int.{ints}
use Rattle.fb_types.specs.declared.grid.Grid.{Grid}
use Rattle.grid_state.specs.GridState.{GridState, IsSound}
use Rattle.grid_laplacian.specs.Ranges.{IsOfGrid, IsInRange}
use Rattle.cnec_selection.specs.Classes.{level_of, class_of, IsRight}
use Rattle.cnec_selection.specs.declared.Class.TheVariants.{Below, Doubtful, Certain}
use Rattle.cnec_selection.proofs.SpreadProofs.{below_right, certain_right}
use Rattle.domain_rows.proofs.Inclusions.{brackets}
use Rattle.row_security.proofs.Exchanges.{held_rows_are_bracketed}
use Rattle.cnec_rows.specs.RowNumbers.{factors_from, factor_spans, of_core, row_on, row_spans_of, row_proof_of}
use Rattle.cnec_rows.proofs.Exact.{right_row}
use Rattle.row_gaps.specs.RowTruths.{RowsAreTrue}
use Rattle.row_gaps.proofs.Factors.{zones_known, hold_directed}
use Rattle.row_gaps.proofs.Held.{numbers_held, core_count}

class_right : (span : ℤ × ℤ) (t : ℕ) → IsRight span t (class_of span t)
class_right span t = by_below (int_lt span.1 (level_of t)) refl
  where
    by_certain : (b : Bool) → int_le (level_of t) span.0 ≡ b → IsRight span t (cond b Certain Doubtful)
    by_certain true is = certain_right span t (omega (arith, ints, is))
    by_certain false is = tt

    by_below : (b : Bool) → int_lt span.1 (level_of t) ≡ b
        → IsRight span t (cond b Below (cond (int_le (level_of t) span.0) Certain Doubtful))
    by_below true is = below_right span t (omega (arith, ints, is))
    by_below false is = by_certain (int_le (level_of t) span.0) refl

pub rows_true : (s : GridState) (grid : Grid) → IsSound s → IsOfGrid grid s → IsInRange grid s → RowsAreTrue s grid
rows_true s grid sound of range columns zones terms c proof proved stands =
    let factors = factor_spans s c terms.against columns proof in
    let spans = row_spans_of s columns zones terms c proof in
    let known =
    zones_known grid s c sound of stands proof proved.proves.barrier columns proved.keys proved.great
    proved.proves.blocks in
    let holds = numbers_held grid s c sound of range stands columns zones terms proof proved in
    record {
      holds = holds;
      right =
          right_row s grid (row_on terms c) columns zones factors terms.threshold spans
          (row_proof_of s columns zones terms c proof) (held_rows_are_bracketed s sound grid) proved.fit
          (hold_directed s c terms.against columns (factors_from s c proof 0 columns) known) holds
          (class_right spans.spread terms.threshold)
          (brackets (of_core zones.core factors) spans.ram zones.bounds (core_count s c terms.against columns zones proof proved.fit));
    }
