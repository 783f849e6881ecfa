-- All numbers of a row are narrow.
use Rattle.std.proofs.Common.{ℕ, ◌+◌, ◌*◌, ◌^◌, ◌≤◌, true, false, List, All, ℤ, pos, ◌+ℤ◌, ◌-ℤ◌, ◌*ℤ◌, ◌≤ℤ◌, ◌<ℤ◌, arith}
use Rattle.std.proofs.lemmas.Int.{ints}
use Rattle.whole_laws.specs.Ring.{linear}
use Rattle.fb_types.specs.declared.grid.Grid.{Grid}
use Rattle.fb_types.specs.declared.keys.Column.{Column}
use Rattle.grid_state.specs.GridState.{GridState, IsSound}
use Rattle.grid_laplacian.specs.Ranges.{IsOfGrid, IsInRange}
use Rattle.security.specs.Flows.{NumberedBranch}
use Rattle.branch_spans.specs.FlowSpans.{IsBranchOf}
use Rattle.security.specs.Margins.{ElementNumbers}
use Rattle.ram_formulas.proofs.MarginProofs.{margin_falls}
use Rattle.domain_rows.specs.Brackets.{trillion}
use Rattle.reference_flows.specs.WithoutExchanges.{exchanges_span, counted_positions, less_exchanges, sizes_of}
use Rattle.reference_flows.proofs.Loops.{counted_sizes}
use Rattle.state_proofs.specs.declared.StateProof.{StateProof}
use Rattle.cnec_rows.specs.RowNumbers.{factors_from, factor_spans, fref_span, of_core, f0core_span, f0all_span, fuaf_span, ram_span, spread_span, stated_of, row_spans_of, row_proof_of}
use Rattle.cnec_rows.specs.declared.types.RowTerms.{RowTerms}
use Rattle.cnec_rows.specs.declared.types.RowZones.{RowZones}
use Rattle.cnec_rows.proofs.Lists.{core_all}
use Rattle.row_gaps.specs.Narrow.{width_of, IsNarrow, IsOrdered}
use Rattle.row_gaps.proofs.MarginWidths.{margins_are_narrow}
use Rattle.row_gaps.proofs.SpreadWidths.{spreads_are_narrow}
use Rattle.row_gaps.proofs.DeviationWidths.{deviations_are_small}
use Rattle.row_gaps.proofs.SideWidths.{sides_are_near}
use Rattle.security.specs.Gaps.{stretch_of}
use Rattle.row_gaps.specs.Widths.{factor_most, spread_most, reference_most, exchanges_most, margin_most, deviation_most, AreNarrow}
use Rattle.row_gaps.specs.GapLaws.{IsProved}
use Rattle.row_gaps.proofs.Factors.{zones_known, ordered_directed, narrow_directed}
use Rattle.row_gaps.proofs.Exchanges.{exchanges_narrow, exchanges_ordered}
use Rattle.row_gaps.proofs.Held.{flow_known}

-- ---- plain numbers

-- a flow less what exchanges put on it
less_narrow : (n : ℕ) (fref exchanges : ℤ × ℤ) → IsNarrow (pos 10) (reference_most n) fref
    → width_of exchanges ≤ℤ exchanges_most n → IsNarrow (pos 10) (margin_most n) (less_exchanges fref exchanges)
less_narrow n fref exchanges h k = omega (arith, ints, h, k)

less_ordered : (fref exchanges : ℤ × ℤ) → IsOrdered fref → IsOrdered exchanges
    → IsOrdered (less_exchanges fref exchanges)
less_ordered fref exchanges h k = omega (arith, linear, h, k)

external_narrow : (n : ℕ) (s : ℤ × ℤ) → width_of s ≤ℤ exchanges_most n → IsNarrow (pos 10) (margin_most n) s
external_narrow n s h = omega (arith, ints, h)

spread_size : (n : ℕ) (z : ℤ) → z <ℤ (pos 2 *ℤ factor_most n) → z <ℤ spread_most n
spread_size n z h = omega (arith, ints, h)

deviation_size : (n : ℕ) (z : ℤ) → z ≤ℤ (pos 64 *ℤ (factor_most n +ℤ trillion)) → z ≤ℤ deviation_most n
deviation_size n z h = omega (arith, ints, h)

gap_size : (n : ℕ) (z : ℤ) → ((pos 10 *ℤ trillion) *ℤ z) <ℤ ((margin_most n +ℤ deviation_most n) +ℤ pos 20 *ℤ trillion)
    → (trillion *ℤ z) <ℤ pos (60 * n + 39 * 10 ^ 12)
gap_size n z h = omega (arith, ints, h)

-- ---- the numbers of a row, from its reference flow and the factors of all zones

-- what is known of these
pub record Known (n : ℕ) (zones : RowZones) (fref : ℤ × ℤ) (factors : List (ℤ × ℤ)) : Type 0 where
  pub ordered : All IsOrdered factors
  pub narrow : All (IsNarrow trillion (factor_most n)) factors
  pub fref_ordered : IsOrdered fref
  pub fref_narrow : IsNarrow (pos 10) (reference_most n) fref
  pub positions : sizes_of zones.positions ≤ 10 ^ 12

module _ (n : ℕ) (zones : RowZones) (fref : ℤ × ℤ) (factors : List (ℤ × ℤ)) (known : Known n zones fref factors) where
  all_exchanges : (ps : List ℤ) → sizes_of ps ≤ sizes_of zones.positions
      → width_of (exchanges_span factors ps) ≤ℤ exchanges_most n
  all_exchanges ps le =
      exchanges_narrow (exchanges_most n) factors ps (omega (arith, ints))
      (let few = known.positions in omega (arith, le, few)) known.ordered known.narrow

  f0core_narrow : IsNarrow (pos 10) (margin_most n) (f0core_span zones fref factors)
  f0core_narrow =
      less_narrow n fref (exchanges_span factors (counted_positions true zones.positions zones.core)) known.fref_narrow
      (all_exchanges (counted_positions true zones.positions zones.core) (counted_sizes true zones.positions zones.core))

  f0all_narrow : IsNarrow (pos 10) (margin_most n) (f0all_span zones fref factors)
  f0all_narrow =
      less_narrow n fref (exchanges_span factors zones.positions) known.fref_narrow
      (all_exchanges zones.positions (omega arith))

  fuaf_narrow : width_of (fuaf_span zones factors) ≤ℤ exchanges_most n
  fuaf_narrow =
      all_exchanges (counted_positions false zones.positions zones.core)
      (counted_sizes false zones.positions zones.core)

  ram_narrow : (e : ElementNumbers)
      → IsNarrow (pos 10) (margin_most n) (ram_span e (f0core_span zones fref factors) (fuaf_span zones factors))
  ram_narrow e =
      margins_are_narrow e (f0core_span zones fref factors) (fuaf_span zones factors) (pos 10) (margin_most n)
      (omega (arith, ints)) (omega (arith, ints)) f0core_narrow
      (external_narrow n (fuaf_span zones factors) fuaf_narrow)

  ram_ordered : (e : ElementNumbers) → IsOrdered (ram_span e (f0core_span zones fref factors) (fuaf_span zones factors))
  ram_ordered e =
      margin_falls e (f0core_span zones fref factors).0 (f0core_span zones fref factors).1 (fuaf_span zones factors).0
      (fuaf_span zones factors).1
      (less_ordered fref (exchanges_span factors (counted_positions true zones.positions zones.core)) known.fref_ordered (exchanges_ordered factors (counted_positions true zones.positions zones.core)))
      (exchanges_ordered factors (counted_positions false zones.positions zones.core))

  spread_narrow : IsNarrow trillion (spread_most n) (spread_span (of_core zones.core factors))
  spread_narrow =
      spread_size n _
      (spreads_are_narrow (of_core zones.core factors) trillion (factor_most n) (record { le = tt }) (omega (arith, ints)) (core_all (IsNarrow trillion (factor_most n)) zones.core factors known.narrow))

module _ (grid : Grid) (s : GridState) (c : NumberedBranch) (sound : IsSound s) (of : IsOfGrid grid s) (range : IsInRange grid s) (stands : IsBranchOf grid c) (columns : List Column) (zones : RowZones) (terms : RowTerms) (proof : StateProof) (proved : IsProved s grid columns zones proof) where
  known_row : Known (stretch_of s c.branch) zones (fref_span s c terms.against proof) (factor_spans s c terms.against columns proof)
  known_row =
      let factors = factors_from s c proof 0 columns in
      let known =
      zones_known grid s c sound of stands proof proved.proves.barrier columns proved.keys proved.great
      proved.proves.blocks in
      let flow = flow_known grid s c sound of range stands columns proof proved.proves terms.against in
      record {
        ordered = ordered_directed s c terms.against columns factors known;
        narrow = narrow_directed s c terms.against columns factors known;
        fref_ordered = flow.ordered;
        fref_narrow = flow.narrow;
        positions = proved.fit.small;
      }

  pub rows_are_narrow : AreNarrow (stretch_of s c.branch) zones (factor_spans s c terms.against columns proof) (row_spans_of s columns zones terms c proof) (row_proof_of s columns zones terms c proof)
  rows_are_narrow =
      let n = stretch_of s c.branch in
      let fref = fref_span s c terms.against proof in
      let factors = factor_spans s c terms.against columns proof in
      let core = of_core zones.core factors in
      let ram = ram_narrow n zones fref factors known_row (stated_of terms) in
      let deviation =
      deviation_size n _
      (deviations_are_small core zones.bounds (factor_most n) (omega (arith, ints)) proved.fit.in_range (core_all IsOrdered zones.core factors known_row.ordered) (core_all (IsNarrow trillion (factor_most n)) zones.core factors known_row.narrow))
      in
      record {
        each_ordered = known_row.ordered;
        each_factor = known_row.narrow;
        fref_ordered = known_row.fref_ordered;
        fref = known_row.fref_narrow;
        f0core = f0core_narrow n zones fref factors known_row;
        f0all = f0all_narrow n zones fref factors known_row;
        fuaf = fuaf_narrow n zones fref factors known_row;
        ram_ordered = ram_ordered n zones fref factors known_row (stated_of terms);
        ram = ram;
        spread = spread_narrow n zones fref factors known_row;
        deviations = deviation;
        gap = gap_size n
            ((row_proof_of s columns zones terms c proof).r_out -ℤ (row_proof_of s columns zones terms c proof).r_in)
            (sides_are_near core zones.bounds (row_spans_of s columns zones terms c proof).ram (margin_most n) (deviation_most n) ram deviation);
      }
