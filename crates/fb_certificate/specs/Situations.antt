-- What the inputs of a domain say of security: the situation in which net positions are secure or not (`security/specs/Secure.antt`).
use Rattle.std.specs.Prelude.{List, map}
use Rattle.security.specs.Flows.{NumberedBranch}
use Rattle.security.specs.Rows.{Row, KeyedZone, direction_of}
use Rattle.security.specs.Secure.{MonitoredRow, Situation, RowPlace, IsPlaceIn, row_at_place}
use Rattle.run_settings.specs.Laws.{core_bounds}
use Rattle.cnec_rows.specs.RowNumbers.{stated_of, keyed_zones}
use Rattle.cnec_rows.specs.declared.types.RowTerms.{RowTerms}
use Rattle.fb_certificate.specs.CracRows.{CracRow, crac_rows, state_of_row, terms_of}
use Rattle.fb_certificate.specs.Whole.{row_zones}
use Rattle.fb_certificate.specs.declared.types.Inputs.{Inputs}

-- what is stated of a row of the CRAC
abbrev pub stated : Inputs → CracRow → RowTerms
stated inputs row = terms_of inputs.settings inputs.reductions row

-- the row as it is monitored
abbrev pub monitored : Inputs → CracRow → MonitoredRow
monitored inputs row = record {
  state = state_of_row inputs.outages row;
  branch = row.element.branch;
  direction = direction_of (stated inputs row).against;
  numbers = stated_of (stated inputs row);
}

-- the zones with their keys
abbrev pub zones_in : Inputs → List KeyedZone
zones_in inputs = keyed_zones inputs.keys.columns (row_zones inputs.settings inputs.keys)

-- the situation: its rows are all rows of the CRAC
abbrev pub situation_of : Inputs → Situation
situation_of inputs = record {
  grid = inputs.grid;
  states = inputs.states;
  zones = zones_in inputs;
  bounds = core_bounds inputs.settings.zones;
  threshold = inputs.settings.threshold;
  rows = map (monitored inputs) (crac_rows inputs.crac.elements);
}

-- the state that a row is monitored in, and its branch
abbrev pub IsPlaceOf : Inputs → CracRow → RowPlace → Type 0
IsPlaceOf inputs row place = IsPlaceIn (situation_of inputs) (monitored inputs row) place

-- the branch with its number, and the exact row over it
abbrev pub branch_of : CracRow → RowPlace → NumberedBranch
branch_of row place = record { number = row.element.branch; branch = place.branch }

abbrev pub exact_row : Inputs → CracRow → RowPlace → Row
exact_row inputs row place = row_at_place (monitored inputs row) place
