-- The spans of a row that a proof of its grid state gives hold the exact numbers.
use Rattle.std.proofs.Common.{◌≡◌, ◌*◌, ◌^◌, ◌<◌, inl, inr, Bool, true, false, List, length, ℤ, pos, refl, sym, subst, ◌∙◌, arith}
use Rattle.std.proofs.lemmas.Bool.{cases_Bool, cond-true, cond-false}
use Rattle.std.proofs.lemmas.Int.{ints}
use Rattle.std.proofs.lemmas.List.{length-map}
use Rattle.fb_span.specs.Ends.{EndsWithin}
use Rattle.fb_types.specs.declared.grid.Grid.{Grid}
use Rattle.fb_types.specs.declared.keys.Column.{Column}
use Rattle.grid_state.specs.GridState.{GridState, carries_at, IsSound}
use Rattle.grid_laplacian.specs.Ranges.{IsOfGrid, IsInRange}
use Rattle.security.specs.Flows.{NumberedBranch, reference_flow_of}
use Rattle.branch_spans.specs.FlowSpans.{IsBranchOf}
use Rattle.ram_formulas.proofs.MarginProofs.{margin_held}
use Rattle.cnec_selection.proofs.SpreadProofs.{spread_held}
use Rattle.reference_flows.specs.ReferenceSpans.{carried_span_of}
use Rattle.reference_flows.proofs.Held.{holds_without_core, holds_without_any, holds_external}
use Rattle.reference_flows.proofs.ReferenceHeld.{reference_held, carried_ordered, still_held}
use Rattle.state_proofs.specs.StateProofs.{IsStateProof}
use Rattle.state_proofs.specs.declared.StateProof.{StateProof}
use Rattle.cnec_rows.specs.RowNumbers.{directed, factors_from, factor_spans, fref_span, of_core, f0core_span, fuaf_span, ram_span, spread_span, stated_of, row_on, keyed_zones, row_spans_of, spans_from, HoldNumbers, AreRowZones}
use Rattle.security.specs.Rows.{direction_of}
use Rattle.cnec_rows.specs.RowParts.{HoldsAlong, HoldFrom}
use Rattle.cnec_rows.specs.declared.types.RowTerms.{RowTerms}
use Rattle.cnec_rows.specs.declared.types.RowZones.{RowZones}
use Rattle.cnec_rows.proofs.Columns.{from_length}
use Rattle.cnec_rows.proofs.Lists.{core_length}
use Rattle.cnec_rows.proofs.Turned.{turned_lies, turned_within}
use Rattle.cnec_rows.proofs.Exact.{hold_numbers}
use Rattle.row_gaps.specs.Narrow.{IsNarrow, IsOrdered}
use Rattle.security.specs.Gaps.{stretch_of}
use Rattle.row_gaps.specs.Widths.{reference_most}
use Rattle.row_gaps.specs.GapLaws.{IsProved}
use Rattle.row_gaps.proofs.Blocks.{reference_narrow, reference_within}
use Rattle.row_gaps.proofs.Factors.{zones_known, hold_directed, turned_ordered, turned_narrow}

-- ---- the reference flow

-- what is known of it
pub record KnownFlow (s : GridState) (grid : Grid) (c : NumberedBranch) (against : Bool) (span : ℤ × ℤ) : Type 0 where
  pub held : HoldsAlong s grid c (direction_of against) span
  pub ordered : IsOrdered span
  pub narrow : IsNarrow (pos 10) (reference_most (stretch_of s c.branch)) span
  pub within : EndsWithin (3 * 10 ^ 24) span

module _ (grid : Grid) (s : GridState) (c : NumberedBranch) (sound : IsSound s) (of : IsOfGrid grid s) (range : IsInRange grid s) (stands : IsBranchOf grid c) (columns : List Column) (proof : StateProof) (is_proof : IsStateProof s grid columns proof) (against : Bool) where
  carried_known : carries_at s c.number ≡ true
      → KnownFlow s grid c against (directed against (carried_span_of s c proof.barrier proof.reference))
  carried_known carries =
      let span = carried_span_of s c proof.barrier proof.reference in
      let ordered =
      carried_ordered grid s c sound of range stands carries proof.barrier proof.reference is_proof.barrier
      is_proof.reference in
      record {
        held = λ e solves. turned_lies against span (reference_flow_of s c e) (reference_held grid s c sound of range stands carries proof.barrier proof.reference is_proof.barrier is_proof.reference e solves);
        ordered = turned_ordered against span ordered;
        narrow = turned_narrow against (pos 10) (reference_most (stretch_of s c.branch)) span
            (reference_narrow grid s c sound of stands carries proof.barrier is_proof.barrier _ proof.reference is_proof.reference);
        within = turned_within (3 * 10 ^ 24) against span (directed against span)
            (reference_within s c proof.barrier proof.reference ordered) refl;
      }

  still_known : carries_at s c.number ≡ false → KnownFlow s grid c against (directed against (pos 0, pos 0))
  still_known still = record {
    held = λ e solves. turned_lies against (pos 0, pos 0) (reference_flow_of s c e) (still_held s c e still);
    ordered = turned_ordered against (pos 0, pos 0) (omega (arith, ints));
    narrow = turned_narrow against (pos 10) (reference_most (stretch_of s c.branch)) (pos 0, pos 0)
        (omega (arith, ints));
    within = turned_within (3 * 10 ^ 24) against (pos 0, pos 0) (directed against (pos 0, pos 0))
        (record { low = record { low = omega (arith, ints); high = omega (arith, ints) }; high = record { low = omega (arith, ints); high = omega (arith, ints) } })
        refl;
  }

  pub flow_known : KnownFlow s grid c against (fref_span s c against proof)
  flow_known =
      elim (cases_Bool (carries_at s c.number)) [
        | inl carries ↦ subst (λ (span : ℤ × ℤ). KnownFlow s grid c against (directed against span)) (sym (cond-true {A = ℤ × ℤ} (carries_at s c.number) (carried_span_of s c proof.barrier proof.reference) (pos 0, pos 0) carries)) (carried_known carries)
        | inr still ↦ subst (λ (span : ℤ × ℤ). KnownFlow s grid c against (directed against span)) (sym (cond-false {A = ℤ × ℤ} (carries_at s c.number) (carried_span_of s c proof.barrier proof.reference) (pos 0, pos 0) still)) (still_known still)
      ]

-- ---- all numbers

pub factors_length : (s : GridState) (c : NumberedBranch) (against : Bool) (columns : List Column) (proof : StateProof)
    → length (factor_spans s c against columns proof) ≡ length columns
factors_length s c against columns proof =
    length-map (factors_from s c proof 0 columns) (directed against) ∙ from_length s c proof 0 columns

-- there are as many Core factors as bounds
pub core_count : (s : GridState) (c : NumberedBranch) (against : Bool) (columns : List Column) (zones : RowZones) (proof : StateProof)
    → AreRowZones columns zones
    → length zones.bounds ≡ length (of_core zones.core (factor_spans s c against columns proof))
core_count s c against columns zones proof are =
    are.bounds ∙ sym
    (core_length zones.core (factor_spans s c against columns proof) (are.flags ∙ sym (factors_length s c against columns proof)))

hold_from : (terms : RowTerms) (zones : RowZones) (fref : ℤ × ℤ) (factors : List (ℤ × ℤ))
    → 0 < length (of_core zones.core factors)
    → HoldFrom (stated_of terms) zones factors (spans_from terms zones fref factors)
hold_from terms zones fref factors some = record {
  f0core = holds_without_core fref factors zones.positions zones.core _ refl;
  f0all = holds_without_any fref factors zones.positions _ refl;
  fuaf = holds_external factors zones.positions zones.core _ refl;
  ram = margin_held (stated_of terms) (f0core_span zones fref factors) (fuaf_span zones factors)
      (ram_span (stated_of terms) (f0core_span zones fref factors) (fuaf_span zones factors)) refl refl;
  spread = spread_held (of_core zones.core factors) (spread_span (of_core zones.core factors)) some refl refl;
}

pub numbers_held : (grid : Grid) (s : GridState) (c : NumberedBranch) → IsSound s → IsOfGrid grid s → IsInRange grid s
    → IsBranchOf grid c → (columns : List Column) (zones : RowZones) (terms : RowTerms) (proof : StateProof)
    → IsProved s grid columns zones proof
    → HoldNumbers s grid (keyed_zones columns zones) (row_on terms c) (row_spans_of s columns zones terms c proof)
numbers_held grid s c sound of range stands columns zones terms proof proved =
    let factors = factor_spans s c terms.against columns proof in
    let known =
    zones_known grid s c sound of stands proof proved.proves.barrier columns proved.keys proved.great
    proved.proves.blocks in
    let count = core_count s c terms.against columns zones proof proved.fit in
    let some = proved.fit.some in
    hold_numbers s grid (row_on terms c) columns zones factors (row_spans_of s columns zones terms c proof) proved.fit
    (hold_directed s c terms.against columns (factors_from s c proof 0 columns) known)
    (flow_known grid s c sound of range stands columns proof proved.proves terms.against).held
    (hold_from terms zones (fref_span s c terms.against proof) factors (omega (arith, count, some)))
