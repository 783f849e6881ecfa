-- What a CRAC document says of a grid, member by member in the order in which it is read, or its one first fault.
use Rattle.std.specs.Prelude.{ℕ, ℤ, pos, Bool, true, false, not, ◌&&◌, List, [], ◌∷◌, length, Option, Some, None, Ok, is_some, codes, if◌then◌else◌, nat_lt, nat_le, slice_get, ◌^◌}
use Rattle.std.specs.List.{flat_map}
use Rattle.std.specs.Option.{option_map_or, option_to_list}
use Rattle.serde_json.specs.Data.{Data}
use Rattle.fb_json.specs.Tree.{text_of, decimal_of, length_of}
use Rattle.fb_decimal.specs.declared.Decimal.{Decimal}
use Rattle.fb_types.specs.declared.crac.Contingency.{Contingency}
use Rattle.fb_types.specs.declared.crac.Element.{Element}
use Rattle.fb_types.specs.declared.crac.Crac.{Crac}
use Rattle.fb_types.specs.declared.grid.Node.{Node}
use Rattle.fb_types.specs.declared.grid.Branch.{Branch}
use Rattle.name_tables.specs.Names.{is_among, value_at}
use Rattle.json_reading.specs.Reading.{At, Reading, ◌>>=◌, fault_here, fault_in, refuse_if, found_or, has, required, optional, here, is_true, absent, spot, array, optional_array, required_array}
use Rattle.crac_model.specs.Words.{word_is, instant_kind, is_preventive, is_within}
use Rattle.crac_model.specs.Naming.{NamedGrid, places_of, branch_places, is_coupler, branch_named}
use Rattle.crac_model.specs.Power.{most_watts}
use Rattle.crac_model.specs.Ratings.{amounts, ratings_at}
use Rattle.crac_model.specs.Thresholds.{limits_of}
use Rattle.crac_model.specs.declared.fault.CracKind.{CracKind}
use Rattle.crac_model.specs.declared.fault.CracKind.TheVariants.{Missing, WrongType, UnknownInstant, UnknownContingency, UnknownElement, CouplerMonitored, OutOfRange, BothMargins, DuplicateId, TooMany}
use Rattle.crac_model.specs.declared.instants.InstantKind.{InstantKind}
use Rattle.crac_model.specs.declared.instants.InstantKind.TheVariants.{Preventive, Outage, Auto, Curative}
use Rattle.crac_model.specs.declared.instants.Instant.{Instant}
use Rattle.crac_model.specs.declared.names.Named.{Named}
use Rattle.crac_model.specs.declared.limits.Limits.{Limits}

abbrev pub Read : Type 0 → Type 0
Read A = Reading CracKind A

-- ---- instants

-- the ids of instants with their kinds
abbrev pub kinds_of : List Instant → List (List ℕ × InstantKind)
kinds_of [] = []
kinds_of (i ∷ is) = (i.id, i.kind) ∷ kinds_of is

unfoldable pub instant_of : List Instant → At CracKind → Read (Option Instant)
instant_of before at = do
  id ← required text_of (codes "id") at
  is_new ← refuse_if (is_some (value_at (kinds_of before) id)) (fault_in (codes "id") DuplicateId at)
  word ← required text_of (codes "kind") at
  kind ← found_or (instant_kind word) (fault_in (codes "kind") WrongType at)
  Ok (Some (record { id = id; kind = kind }))

abbrev pub default_kinds : List (List ℕ × InstantKind)
default_kinds = (codes "preventive", Preventive) ∷ (codes "outage", Outage) ∷ (codes "auto", Auto) ∷ (codes "curative", Curative) ∷ []

unfoldable pub instants_of : At CracKind → Read (List (List ℕ × InstantKind))
instants_of at = do
  found ← optional_array instant_of (codes "instants") at
  Ok (option_map_or kinds_of found default_kinds)

-- ---- contingencies

unfoldable pub outage_of : NamedGrid → List Named → At CracKind → Read (Option Named)
outage_of grid before at = do
  name ← here text_of at
  found ← found_or (branch_named grid name) (fault_here UnknownElement at)
  Ok (Some found)

-- a tie line is taken out with both of its halves
abbrev pub branches_named : Named → List ℕ
branches_named n = n.branch ∷ option_to_list n.other

abbrev pub contingency_ids : List Contingency → List (List ℕ)
contingency_ids [] = []
contingency_ids (c ∷ cs) = c.id ∷ contingency_ids cs

unfoldable pub contingency_of : NamedGrid → List Contingency → At CracKind → Read (Option Contingency)
contingency_of grid before at = do
  id ← required text_of (codes "id") at
  is_new ← refuse_if (is_among (contingency_ids before) id) (fault_in (codes "id") DuplicateId at)
  outages ← required_array (outage_of grid) (codes "networkElementsIds") at
  Ok (Some (record { id = id; branches = flat_map branches_named outages }))

unfoldable pub contingency_list : NamedGrid → At CracKind → Read (List Contingency)
contingency_list grid at = do
  count ← here length_of at
  few ← refuse_if (nat_lt 512 count) (fault_here TooMany at)
  array (contingency_of grid) at

abbrev pub contingencies_if : NamedGrid → Option (At CracKind) → Read (List Contingency)
contingencies_if grid None = Ok []
contingencies_if grid (Some at) = contingency_list grid at

unfoldable pub contingencies_of : NamedGrid → At CracKind → Read (List Contingency)
contingencies_of grid at = do
  found ← spot (codes "contingencies") at
  contingencies_if grid found

-- ---- elements

-- what is known when the elements are read
pub record Facts : Type 0 where
  pub grid : NamedGrid
  pub instants : List (List ℕ × InstantKind)
  pub contingencies : List (List ℕ × ℕ)

-- whether the branch at a place is a coupler
unfoldable pub is_coupler_at : NamedGrid → ℕ → Bool
is_coupler_at grid place = option_map_or (λ b. is_coupler b.kind) (slice_get grid.branches place) false

-- the branch that is monitored
unfoldable pub monitored_of : NamedGrid → At CracKind → Read Named
monitored_of grid at = do
  name ← required text_of (codes "networkElementId") at
  found ← found_or (branch_named grid name) (fault_in (codes "networkElementId") UnknownElement at)
  no_coupler ← refuse_if (is_coupler_at grid found.branch) (fault_in (codes "networkElementId") CouplerMonitored at)
  Ok found

-- the contingency: of a preventive instant there is none, of any other there must be one
unfoldable pub contingency_for : Bool → List (List ℕ × ℕ) → At CracKind → Read (Option ℕ)
contingency_for true contingencies at = do
  none ← absent (codes "contingencyId") at
  Ok None
contingency_for false contingencies at = do
  id ← required text_of (codes "contingencyId") at
  place ← found_or (value_at contingencies id) (fault_in (codes "contingencyId") UnknownContingency at)
  Ok (Some place)

-- the grid state that an element is monitored in
pub record State : Type 0 where
  pub instant : List ℕ
  pub contingency : Option ℕ

unfoldable pub state_of : Facts → At CracKind → Read State
state_of facts at = do
  instant ← required text_of (codes "instant") at
  kind ← found_or (value_at facts.instants instant) (fault_in (codes "instant") UnknownInstant at)
  contingency ← contingency_for (is_preventive kind) facts.contingencies at
  Ok (record { instant = instant; contingency = contingency })

-- a margin in megawatts, from 0 to 10^11 W; none is 0
abbrev pub margin_watts : Option Decimal → ℤ
margin_watts value = option_map_or (λ d. d.millionths) value (pos 0)

unfoldable pub margin_in : List ℕ → At CracKind → Read ℤ
margin_in name at = do
  value ← optional decimal_of name at
  fits ← refuse_if (not (is_within (pos 0) (pos most_watts) (margin_watts value))) (fault_in name OutOfRange at)
  Ok (margin_watts value)

unfoldable pub margin_of : At CracKind → Read ℤ
margin_of at = do
  long ← has (codes "reliabilityMargin") at
  short ← has (codes "frm") at
  one ← refuse_if (short && long) (fault_here BothMargins at)
  margin_in (if short then codes "frm" else codes "reliabilityMargin") at

-- currents from 0 to 10^6 A in millionths, voltages from 0.001 to 1000 kV in millionths
unfoldable pub rated_limits : NamedGrid → ℕ → At CracKind → Read Limits
rated_limits grid place at = do
  currents ← amounts (pos 0) (pos (10 ^ 12)) (codes "iMax") at
  voltages ← amounts (pos 1000) (pos (10 ^ 9)) (codes "nominalV") at
  limits_of (ratings_at grid place currents voltages) at

abbrev pub element_ids : List Element → List (List ℕ)
element_ids [] = []
element_ids (e ∷ es) = e.id ∷ element_ids es

abbrev pub element : List ℕ → State → Named → ℤ → Limits → Element
element id state found margin limits = record {
  id = id;
  instant = state.instant;
  contingency = state.contingency;
  branch = found.branch;
  turned = found.turned;
  margin = margin;
  direct = limits.direct;
  opposite = limits.opposite;
}

unfoldable pub entered_of : Facts → List Element → At CracKind → Read (Option Element)
entered_of facts before at = do
  room ← refuse_if (nat_le 20000 (length before)) (fault_here TooMany at)
  id ← required text_of (codes "id") at
  is_new ← refuse_if (is_among (element_ids before) id) (fault_in (codes "id") DuplicateId at)
  found ← monitored_of facts.grid at
  state ← state_of facts at
  margin ← margin_of at
  limits ← rated_limits facts.grid found.branch at
  Ok (Some (element id state found margin limits))

-- an entry that is not optimized is passed over unread
unfoldable pub entry_of : Facts → List Element → At CracKind → Read (Option Element)
entry_of facts before at = do
  optimized ← is_true (codes "optimized") at
  if optimized then entered_of facts before at else Ok None

-- ---- the document

unfoldable pub crac_at : NamedGrid → At CracKind → Read Crac
crac_at grid at = do
  word ← required text_of (codes "type") at
  is_crac ← found_or (word_is (codes "CRAC") word) (fault_in (codes "type") WrongType at)
  instants ← instants_of at
  contingencies ← contingencies_of grid at
  elements ← required_array (entry_of (record { grid = grid; instants = instants; contingencies = places_of (contingency_ids contingencies) })) (codes "flowCnecs") at
  Ok (record { contingencies = contingencies; elements = elements })

abbrev pub document : Data → At CracKind
document tree = record { place = []; tree = tree; missing = Missing; wrong = WrongType }

-- what the document of a tree says of the grid of these nodes and branches
unfoldable pub crac_of : List Node → List Branch → Data → Read Crac
crac_of nodes branches tree = crac_at (record { nodes = nodes; branches = branches; places = branch_places branches }) (document tree)
