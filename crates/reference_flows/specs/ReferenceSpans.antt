-- The span of the reference flow of a branch, in picowatts. Nobody need read this to know what a domain promises.
-- It comes from a barrier and the enclosed angles of the base balance.
use Rattle.std.specs.Prelude.{ℤ, pos, neg_ℤ, ◌+ℤ◌, ◌*ℤ◌, List, if◌then◌else◌}
use Rattle.std.specs.Int.{int_max, int_min}
use Rattle.whole_laws.specs.Quotients.{floor_of, ceil_of}
use Rattle.fractions.specs.Spans.{LiesAt}
use Rattle.fb_types.specs.declared.grid.Branch.{Branch}
use Rattle.fb_types.specs.declared.grid.Grid.{Grid}
use Rattle.fb_types.specs.declared.rows.Angles.{Angles}
use Rattle.grid_state.specs.GridState.{GridState, carries_at}
use Rattle.security.specs.Balances.{base_balance}
use Rattle.security.specs.Flows.{ExactAngles, AreAnglesOf, NumberedBranch, reference_flow_of}
use Rattle.branch_spans.specs.FlowSpans.{flow_span_of}
use Rattle.reference_flows.specs.WithoutExchanges.{trillion}

-- within the range rule no reference flow is greater, in picowatts
abbrev pub greatest_flow : ℤ
greatest_flow = pos 3000000000000000000000000

-- what the phase shift of a branch adds to its flow, b·φ, in 10^-13 W
abbrev pub shift_part : Branch → ℤ
shift_part branch = (branch.b *ℤ branch.phi) *ℤ pos 10000

-- floor(b·(d − e + φ·10^4)/10) to ceil(b·(d + e + φ·10^4)/10), met with ±3·10^24
abbrev pub carried_span_of : GridState → NumberedBranch → List ℤ → Angles → ℤ × ℤ
carried_span_of s c v angles = (
  int_max (floor_of ((flow_span_of s c.branch v angles).0 +ℤ shift_part c.branch) (pos 10)) (neg_ℤ greatest_flow),
  int_min (ceil_of ((flow_span_of s c.branch v angles).1 +ℤ shift_part c.branch) (pos 10)) greatest_flow,
)

-- the span; 0 for a branch that does not carry
abbrev pub reference_span_of : GridState → NumberedBranch → List ℤ → Angles → ℤ × ℤ
reference_span_of s c v angles = if carries_at s c.number then carried_span_of s c v angles else (pos 0, pos 0)

-- the span holds the exact reference flow, however its exact angles are written
abbrev pub HoldsReference : GridState → Grid → NumberedBranch → ℤ × ℤ → Type 0
HoldsReference s grid c span = (e : ExactAngles) → AreAnglesOf s (base_balance s grid) e → LiesAt trillion span (reference_flow_of s c e)
