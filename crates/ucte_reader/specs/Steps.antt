-- What the functions that take one line say. Nobody need believe these words: the contracts that cite them are private, and
-- the contract of `read_grid` cites none of them.
use Rattle.std.specs.Prelude.{◌≡◌, ℕ, ℤ, pos, nat_abs, ◌+◌, ◌^◌, ◌≤◌, min, Bool, true, not, ◌==◌, ◌||◌, ◌&&◌, nat_lt, int_lt, List, [], ◌∷◌, ◌++◌, length, map, sum_by, Option, Some, None, Result, Ok, Err, is_none, is_some, is_err, unwrap_or, if◌then◌else◌}
use Rattle.fb_types.specs.GridRanges.{exchange_of}
use Rattle.fb_types.specs.declared.grid.Node.{Node}
use Rattle.fb_types.specs.declared.grid.Branch.{Branch}
use Rattle.phase_rule.specs.Shift.{phase_shift_of}
use Rattle.phase_rule.specs.declared.PhaseFault.{PhaseFault}
use Rattle.phase_rule.specs.declared.Regulation.{Regulation}
use Rattle.phase_rule.specs.declared.Regulation.TheVariants.{Asym}
use Rattle.name_tables.specs.Names.{is_among, value_at}
use Rattle.ucte_lines.specs.Fields.{field_of, number_of}
use Rattle.ucte_reader.specs.Codes.{first_code, second_code, is_code, code_text}
use Rattle.first_fault.specs.Checks.{first_failing}
use Rattle.ucte_reader.specs.Nodes.{node_of, node_codes, kind_in, load_in, generation_in}
use Rattle.ucte_reader.specs.Branches.{is_running, reactance_in, voltage_in, current_limit_in, known_reactance, least_reactance, raised, susceptance_of, susceptance_in, end_checks, electrical_checks, count_checks, joined_checks}
use Rattle.ucte_reader.specs.Regulations.{type_in, step_in, tap_in, angle_in, is_symmetrical, known_step, known_angle, half_turn, setting_checks}
use Rattle.ucte_reader.specs.Facts.{Names}
use Rattle.ucte_reader.specs.declared.block.ZoneCode.{ZoneCode}
use Rattle.ucte_reader.specs.declared.block.Form.{Form}
use Rattle.ucte_reader.specs.declared.status.Status.{Status}
use Rattle.ucte_reader.specs.declared.nodes.Nodes.{Nodes}
use Rattle.ucte_reader.specs.declared.known.Known.{Known}
use Rattle.ucte_reader.specs.declared.electrical.Numbers.{Numbers}
use Rattle.ucte_reader.specs.declared.electrical.Electrical.{Electrical}
use Rattle.ucte_reader.specs.declared.regulations.Setting.{Setting}
use Rattle.ucte_reader.specs.declared.branches.Ends.{Ends}
use Rattle.ucte_reader.specs.declared.branches.Branches.{Branches}
use Rattle.ucte_reader.specs.declared.kind.GridKind.{GridKind}
use Rattle.ucte_reader.specs.declared.kind.GridKind.TheVariants.{BadStatus, BadNumber, NegativeReactance, SusceptanceOutOfRange, InjectionOutOfRange, TooMany, BadPhase}
use Rattle.ucte_reader.specs.declared.kind.LineError.{LineError}
use Rattle.ucte_reader.specs.declared.kind.LineError.TheVariants.{Fault, Memory}

-- a line was taken, or it has this fault
abbrev pub Judges : {X : Type 0} → Result X LineError → Option GridKind → Type 0
Judges (Ok x) fault = fault ≡ None
Judges (Err (Memory e)) fault = Unit {0}
Judges (Err (Fault kind)) fault = fault ≡ Some kind

-- the same, with what is known of the value that was made
abbrev pub Makes : {X : Type 0} → Result X LineError → Option GridKind → (X → Type 0) → Type 0
Makes (Ok x) fault P = (fault ≡ None) × P x
Makes (Err (Memory e)) fault P = Unit {0}
Makes (Err (Fault kind)) fault P = fault ≡ Some kind

-- ---- nodes

abbrev pub power_fault : List ℕ → Option GridKind
power_fault line = first_failing ((is_none (load_in line) || is_none (generation_in line), BadNumber) ∷ [])

abbrev pub node_field_fault : List ℕ → Option GridKind
node_field_fault line = first_failing (
    (is_none (kind_in line), BadStatus)
    ∷ (is_none (load_in line) || is_none (generation_in line), BadNumber)
    ∷ [])

abbrev pub node_limit_fault : List Node → Node → Option GridKind
node_limit_fault earlier n = first_failing (
    (nat_lt (10 ^ 12) (sum_by exchange_of earlier + exchange_of n), InjectionOutOfRange)
    ∷ (nat_lt 4096 (length earlier + 1), TooMany)
    ∷ [])

-- the load and the generation of a line
pub record ArePowers (line : List ℕ) (load generation : ℤ) : Type 0 where
  pub load_is : load_in line ≡ Some load
  pub generation_is : generation_in line ≡ Some generation
  pub load_small : nat_abs load ≤ 10 ^ 17
  pub generation_small : nat_abs generation ≤ 10 ^ 17

pub record IsNodeOf (zone : ZoneCode) (line : List ℕ) (n : Node) : Type 0 where
  pub same : n ≡ node_of zone line
  pub load_small : nat_abs n.load ≤ 10 ^ 17
  pub generation_small : nat_abs n.generation ≤ 10 ^ 17

-- the codes and the total are those of the nodes
pub record KeepsNodes (nodes : Nodes) : Type 0 where
  pub codes : nodes.codes ≡ node_codes nodes.nodes.items
  pub total : nodes.total ≡ sum_by exchange_of nodes.nodes.items
  pub small : nodes.total ≤ 10 ^ 12
  pub few : length nodes.nodes.items ≤ 4096

-- the total is that of the nodes, and the codes have this one more
pub record IsNamed (nodes : Nodes) (code : List ℕ) : Type 0 where
  pub codes : nodes.codes ≡ node_codes nodes.nodes.items ++ code ∷ []
  pub total : nodes.total ≡ sum_by exchange_of nodes.nodes.items
  pub small : nodes.total ≤ 10 ^ 12
  pub few : length nodes.nodes.items ≤ 4096

-- ---- the tables of the whole file

-- a place in 32 bits
abbrev pub capped : ℕ → ℕ
capped n = min n 4294967295

abbrev pub names_in : Known → Names
names_in known = record { is_node = λ code. is_some (value_at known.places code); is_transformer = λ id. is_among known.transformers id }

abbrev pub place_in : Known → List ℕ → ℕ
place_in known code = capped (unwrap_or (value_at known.places code) 0)

abbrev pub shift_in : Known → List ℕ → ℤ
shift_in known id = unwrap_or (value_at known.shifts id) (pos 0)

-- ---- branches

abbrev pub end_fault : (List ℕ → Bool) → List ℕ → Option GridKind
end_fault is_node line = first_failing (end_checks is_node line)

-- the places of the nodes of a line, whose first code is good
pub record AreEnds (known : Known) (line : List ℕ) (ends : Ends) : Type 0 where
  pub good : is_code (first_code line) ≡ true
  pub from_is : ends.from ≡ place_in known (code_text (first_code line))
  pub to_is : ends.to ≡ place_in known (code_text (second_code line))

-- the checks of the numbers: a coupler needs no reactance
abbrev pub number_fault : Form → Bool → List ℕ → Option GridKind
number_fault form needs_reactance line = first_failing (
    ((is_none (reactance_in form line) && needs_reactance) || is_none (voltage_in form line) || is_none (current_limit_in form line), BadNumber)
    ∷ [])

pub record AreNumbers (form : Form) (line : List ℕ) (numbers : Numbers) : Type 0 where
  pub reactance_is : numbers.reactance ≡ known_reactance form line
  pub voltage_is : voltage_in form line ≡ Some numbers.voltage
  pub current_is : current_limit_in form line ≡ Some numbers.current
  pub reactance_small : nat_abs numbers.reactance ≤ 10 ^ 17
  pub voltage_small : numbers.voltage ≤ 10 ^ 9

-- the checks of a branch in operation
abbrev pub running_fault : ℕ → ℤ → Option GridKind
running_fault voltage reactance = first_failing (
    (int_lt reactance (pos 0), NegativeReactance)
    ∷ (nat_lt (susceptance_of voltage (raised (nat_abs reactance))) 1 || nat_lt (10 ^ 11) (susceptance_of voltage (raised (nat_abs reactance))), SusceptanceOutOfRange)
    ∷ [])

abbrev pub electrical_fault : Form → Status → List ℕ → Option GridKind
electrical_fault form status line = first_failing (electrical_checks form status line)

pub record IsElectrical (form : Form) (status : Status) (line : List ℕ) (e : Electrical) : Type 0 where
  pub b_is : e.b ≡ (if is_running status then pos (susceptance_in form line) else pos 0)
  pub current_is : e.current ≡ unwrap_or (current_limit_in form line) None
  pub floored_is : e.floored ≡ (is_running status && nat_lt (nat_abs (known_reactance form line)) least_reactance)

abbrev pub branch_limit_fault : List (List ℕ) → Option GridKind
branch_limit_fault earlier = first_failing (count_checks earlier)

-- the checks behind those of the ends
abbrev pub joined_fault : List (List ℕ) → Form → List ℕ → Option GridKind
joined_fault earlier form line = first_failing (joined_checks earlier form line)

abbrev pub branch_ids : List Branch → List (List ℕ)
branch_ids branches = map (λ b. b.id) branches

-- the ids are those of the branches
pub record KeepsBranches (branches : Branches) : Type 0 where
  pub ids : branches.ids ≡ branch_ids branches.branches.items
  pub few : length branches.branches.items ≤ 16384

-- the ids have this one more
pub record IsBranchNamed (branches : Branches) (id : List ℕ) : Type 0 where
  pub ids : branches.ids ≡ branch_ids branches.branches.items ++ id ∷ []
  pub few : length branches.branches.items ≤ 16384

-- ---- regulations

abbrev pub judged_angle : Option Regulation → ℤ → List ℕ → Option ℤ
judged_angle kind step line = if not (is_symmetrical kind) && not (nat_abs step == 0) then number_of (field_of line 46 50) else Some (pos 0)

abbrev pub setting_number_fault : List ℕ → Option GridKind
setting_number_fault line = first_failing ((is_none (step_in line) || is_none (angle_in line) || is_none (tap_in line), BadNumber) ∷ [])

abbrev pub setting_answer : Setting → Result ℤ PhaseFault
setting_answer setting = phase_shift_of setting.step setting.angle setting.tap (unwrap_or setting.kind Asym)

abbrev pub phase_fault : Setting → Option GridKind
phase_fault setting = first_failing ((is_none setting.kind || nat_lt half_turn (nat_abs setting.angle) || is_err (setting_answer setting), BadPhase) ∷ [])

pub record IsSetting (line : List ℕ) (setting : Setting) : Type 0 where
  pub step_is : setting.step ≡ known_step line
  pub angle_is : setting.angle ≡ known_angle line
  pub tap_is : setting.tap ≡ unwrap_or (tap_in line) (pos 0)
  pub kind_is : setting.kind ≡ type_in line
  pub step_small : nat_abs setting.step ≤ 10 ^ 17
  pub tap_small : nat_abs setting.tap ≤ 999

-- the checks behind that of the id
abbrev pub setting_fault : List ℕ → Option GridKind
setting_fault line = first_failing (setting_checks line)
