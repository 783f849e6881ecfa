-- The numbers of a row from the proof of its grid state: spans of factors in 10^-12, of flows and margins in picowatts, and the
-- row of the domain; and what they hold. (Core day-ahead capacity calculation methodology, ACER decision 02-2019, annex I.)
use Rattle.std.specs.Prelude.{◌≡◌, ℕ, ◌+◌, ◌<◌, ◌≤◌, ℤ, pos, neg_ℤ, ◌≤ℤ◌, Bool, true, false, List, [], ◌∷◌, length, map, All}
use Rattle.std.specs.List.{filter, zip}
use Rattle.fractions.specs.Spans.{LiesAt}
use Rattle.fb_types.specs.Domain.{AreBounds}
use Rattle.fb_types.specs.declared.grid.Grid.{Grid}
use Rattle.fb_types.specs.declared.keys.Column.{Column}
use Rattle.grid_state.specs.GridState.{GridState}
use Rattle.security.specs.Exchanges.{without_any_of}
use Rattle.security.specs.Margins.{ElementNumbers, numbers_of}
use Rattle.security.specs.Flows.{NumberedBranch}
use Rattle.ram_formulas.specs.MarginSpans.{margin_at}
use Rattle.cnec_selection.specs.Classes.{class_of}
use Rattle.cnec_selection.specs.SpreadSpans.{spread_low, spread_high}
use Rattle.cnec_selection.specs.declared.Class.{Class}
use Rattle.cnec_selection.specs.declared.Class.TheVariants.{Below, Doubtful, Certain}
use Rattle.domain_rows.specs.Brackets.{coefficient_of, inner_side, outer_side}
use Rattle.security.specs.Rows.{Row, KeyedZone, Choice, IsChoice, direction_of, seen_by, row_reference_of, f0core_of, fuaf_of, ram_of_row, spread_of_row, IsBelow, IsAlwaysSelected}
use Rattle.security.specs.Capacity.{IsBracketed}
use Rattle.zonal_factors.specs.FactorSpans.{factor_span_of}
use Rattle.reference_flows.specs.ReferenceSpans.{reference_span_of}
use Rattle.reference_flows.specs.WithoutExchanges.{trillion, exchanges_span, counted_positions, less_exchanges, sizes_of}
use Rattle.state_proofs.specs.declared.StateProof.{StateProof}
use Rattle.cnec_rows.specs.declared.types.RowTerms.{RowTerms}
use Rattle.cnec_rows.specs.declared.types.RowZones.{RowZones}
use Rattle.cnec_rows.specs.declared.types.RowSpans.{RowSpans}
use Rattle.cnec_rows.specs.declared.types.RowProof.{RowProof}

-- ---- The row

-- what is stated of the row's element
abbrev pub stated_of : RowTerms → ElementNumbers
stated_of terms = numbers_of terms.limit terms.margin terms.ramr terms.cva terms.iva

-- the row of a branch
abbrev pub row_on : RowTerms → NumberedBranch → Row
row_on terms c = record { branch = c; direction = direction_of terms.against; numbers = stated_of terms }

-- the zones with their keys
abbrev pub keyed_zone : Column × (ℤ × Bool) → KeyedZone
keyed_zone e = record { key = e.0; position = e.1.0; is_core = e.1.1 }

abbrev pub keyed_zones : List Column → RowZones → List KeyedZone
keyed_zones columns zones = map keyed_zone (zip columns (zip zones.positions zones.core))

-- ---- Spans

-- a span in the row's direction: the span of the negatives, against the branch
abbrev pub directed : Bool → ℤ × ℤ → ℤ × ℤ
directed false span = span
directed true span = (neg_ℤ span.1, neg_ℤ span.0)

-- the factors of the zones along the branch: the angles of a zone's blocks stand in the state proof from the place `first` on
abbrev pub factors_from : GridState → NumberedBranch → StateProof → ℕ → List Column → List (ℤ × ℤ)
factors_from s c proof first [] = []
factors_from s c proof first (column ∷ columns) =
    factor_span_of s c proof.barrier column proof.blocks first ∷ factors_from s c proof (first + length column.blocks) columns

-- the factors of all zones, and the reference flow, in the row's direction
abbrev pub factor_spans : GridState → NumberedBranch → Bool → List Column → StateProof → List (ℤ × ℤ)
factor_spans s c against columns proof = map (directed against) (factors_from s c proof 0 columns)

abbrev pub fref_span : GridState → NumberedBranch → Bool → StateProof → ℤ × ℤ
fref_span s c against proof = directed against (reference_span_of s c proof.barrier proof.reference)

-- the factors of the Core zones
abbrev pub of_core : List Bool → List (ℤ × ℤ) → List (ℤ × ℤ)
of_core core factors = map (λ e. e.1) (filter (λ e. e.0) (zip core factors))

-- the flow without the exchanges of Core, without any exchanges, and of exchanges outside Core
abbrev pub f0core_span : RowZones → ℤ × ℤ → List (ℤ × ℤ) → ℤ × ℤ
f0core_span zones fref factors = less_exchanges fref (exchanges_span factors (counted_positions true zones.positions zones.core))

abbrev pub f0all_span : RowZones → ℤ × ℤ → List (ℤ × ℤ) → ℤ × ℤ
f0all_span zones fref factors = less_exchanges fref (exchanges_span factors zones.positions)

abbrev pub fuaf_span : RowZones → List (ℤ × ℤ) → ℤ × ℤ
fuaf_span zones factors = exchanges_span factors (counted_positions false zones.positions zones.core)

-- the margin, and the spread
abbrev pub ram_span : ElementNumbers → ℤ × ℤ → ℤ × ℤ → ℤ × ℤ
ram_span stated f0core fuaf = (margin_at stated f0core.1 fuaf.1, margin_at stated f0core.0 fuaf.0)

abbrev pub spread_span : List (ℤ × ℤ) → ℤ × ℤ
spread_span core_factors = (spread_low core_factors, spread_high core_factors)

-- all of them, from the reference flow and the factors of all zones
abbrev pub spans_from : RowTerms → RowZones → ℤ × ℤ → List (ℤ × ℤ) → RowSpans
spans_from terms zones fref factors = record {
  fref = fref;
  f0core = f0core_span zones fref factors;
  f0all = f0all_span zones fref factors;
  fuaf = fuaf_span zones factors;
  ram = ram_span (stated_of terms) (f0core_span zones fref factors) (fuaf_span zones factors);
  spread = spread_span (of_core zones.core factors);
}

-- the row of the domain, from the factors of the Core zones, the margin and the spread
abbrev pub proof_from : RowTerms → RowZones → List (ℤ × ℤ) → ℤ × ℤ → ℤ × ℤ → RowProof
proof_from terms zones core_factors ram spread = record {
  class = class_of spread terms.threshold;
  a = map coefficient_of core_factors;
  r_in = inner_side core_factors zones.bounds ram;
  r_out = outer_side core_factors zones.bounds ram;
}

-- the numbers of a row
abbrev pub row_spans_of : GridState → List Column → RowZones → RowTerms → NumberedBranch → StateProof → RowSpans
row_spans_of s columns zones terms c proof =
    spans_from terms zones (fref_span s c terms.against proof) (factor_spans s c terms.against columns proof)

abbrev pub row_proof_of : GridState → List Column → RowZones → RowTerms → NumberedBranch → StateProof → RowProof
row_proof_of s columns zones terms c proof =
    proof_from terms zones (of_core zones.core (factor_spans s c terms.against columns proof))
    (row_spans_of s columns zones terms c proof).ram (row_spans_of s columns zones terms c proof).spread

-- ---- What they hold

-- each span holds the exact number, whatever exact angles are chosen
pub record HoldNumbers (s : GridState) (grid : Grid) (zones : List KeyedZone) (row : Row) (spans : RowSpans) : Type 0 where
  pub fref : (choice : Choice) → IsChoice s grid zones choice → LiesAt trillion spans.fref (row_reference_of s row choice)
  pub f0core : (choice : Choice) → IsChoice s grid zones choice → LiesAt trillion spans.f0core (f0core_of s row choice)
  pub f0all : (choice : Choice) → IsChoice s grid zones choice
      → LiesAt trillion spans.f0all (without_any_of (row_reference_of s row choice) (map (seen_by s row) choice.zones))
  pub fuaf : (choice : Choice) → IsChoice s grid zones choice → LiesAt trillion spans.fuaf (fuaf_of s row choice)
  pub ram : (choice : Choice) → IsChoice s grid zones choice → LiesAt trillion spans.ram (ram_of_row s row choice)
  pub spread : (choice : Choice) → IsChoice s grid zones choice → LiesAt trillion spans.spread (spread_of_row s row choice)

-- what a class says
abbrev pub IsOfClass : GridState → Grid → List KeyedZone → Row → ℕ → Class → Type 0
IsOfClass s grid zones row threshold Below = IsBelow s grid zones row threshold
IsOfClass s grid zones row threshold Doubtful = Unit {0}
IsOfClass s grid zones row threshold Certain = IsAlwaysSelected s grid zones row threshold

-- a row of the domain: its class is right, and its two sides bracket the exact flow, by nodal injections
pub record IsRightRow (s : GridState) (grid : Grid) (columns : List Column) (zones : RowZones) (row : Row) (threshold : ℕ) (proof : RowProof) : Type 0 where
  pub of_class : IsOfClass s grid (keyed_zones columns zones) row threshold proof.class
  pub brackets : IsBracketed s grid (keyed_zones columns zones) row zones.bounds proof.a proof.r_in proof.r_out

-- ---- Conditions

-- what is stated of the row is in range
pub record AreTerms (terms : RowTerms) : Type 0 where
  pub limit : (pos 1 ≤ℤ terms.limit) × (terms.limit ≤ℤ pos 100000000000)
  pub margin : (pos 0 ≤ℤ terms.margin) × (terms.margin ≤ℤ pos 100000000000)
  pub cva : (pos 0 ≤ℤ terms.cva) × (terms.cva ≤ℤ pos 100000000000)
  pub iva : (pos 0 ≤ℤ terms.iva) × (terms.iva ≤ℤ pos 100000000000)
  pub ramr : terms.ramr ≤ 1000

-- the zones have a position and a flag for each column, bounds for each Core zone, and there is a Core zone
pub record AreRowZones (columns : List Column) (zones : RowZones) : Type 0 where
  pub positions : length zones.positions ≡ length columns
  pub flags : length zones.core ≡ length columns
  pub bounds : length zones.bounds ≡ length (filter (λ flag. flag) zones.core)
  pub some : 0 < length zones.bounds
  pub in_range : AreBounds zones.bounds
  pub ordered : All (λ b. b.low ≤ℤ b.high) zones.bounds
  pub small : sizes_of zones.positions ≤ 1000000000000
