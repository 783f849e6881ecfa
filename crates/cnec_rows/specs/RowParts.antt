-- Words of private contracts: what the parts hold that a row is put together from. Nobody need believe them: what a row holds
-- (RowNumbers) is told by the exact numbers alone.
use Rattle.std.specs.Prelude.{ℤ, List}
use Rattle.std.specs.List.{AllZip}
use Rattle.fractions.specs.Fractions.{times}
use Rattle.fractions.specs.Spans.{LiesAt}
use Rattle.fb_types.specs.declared.grid.Grid.{Grid}
use Rattle.fb_types.specs.declared.keys.Column.{Column}
use Rattle.grid_state.specs.GridState.{GridState}
use Rattle.security.specs.Margins.{ElementNumbers}
use Rattle.security.specs.Balances.{base_balance}
use Rattle.security.specs.Flows.{ExactAngles, AreAnglesOf, NumberedBranch, reference_flow_of, factor_of, AreAnglesOfKey}
use Rattle.ram_formulas.specs.MarginSpans.{HoldsMargin}
use Rattle.cnec_selection.specs.SpreadSpans.{HoldsSpread}
use Rattle.reference_flows.specs.WithoutExchanges.{trillion, HoldsWithoutCore, HoldsWithoutAny, HoldsExternal}
use Rattle.cnec_rows.specs.declared.types.RowZones.{RowZones}
use Rattle.cnec_rows.specs.declared.types.RowSpans.{RowSpans}
use Rattle.cnec_rows.specs.RowNumbers.{of_core}

-- the span holds the factor of the key's zone in the row's direction, however its exact angles are written
abbrev pub HoldsDirected : GridState → NumberedBranch → ℤ → Column → ℤ × ℤ → Type 0
HoldsDirected s c direction column span = (es : List ExactAngles) → AreAnglesOfKey s column es → LiesAt trillion span (times direction (factor_of s c column es))

-- the same of each zone and its span
abbrev pub HoldFactors : GridState → NumberedBranch → ℤ → List Column → List (ℤ × ℤ) → Type 0
HoldFactors s c direction = AllZip (HoldsDirected s c direction)

-- the span holds the reference flow in the row's direction, however its exact angles are written
abbrev pub HoldsAlong : GridState → Grid → NumberedBranch → ℤ → ℤ × ℤ → Type 0
HoldsAlong s grid c direction span = (e : ExactAngles) → AreAnglesOf s (base_balance s grid) e → LiesAt trillion span (times direction (reference_flow_of s c e))

-- each span holds its number wherever the reference flow and the factors lie in their spans
pub record HoldFrom (stated : ElementNumbers) (zones : RowZones) (factors : List (ℤ × ℤ)) (spans : RowSpans) : Type 0 where
  pub f0core : HoldsWithoutCore spans.fref factors zones.positions zones.core spans.f0core
  pub f0all : HoldsWithoutAny spans.fref factors zones.positions spans.f0all
  pub fuaf : HoldsExternal factors zones.positions zones.core spans.fuaf
  pub ram : HoldsMargin stated spans.f0core spans.fuaf spans.ram
  pub spread : HoldsSpread (of_core zones.core factors) spans.spread
