-- Lines and transformers of the UCTE data exchange format. Voltages are in millionths of a kilovolt, reactances in
-- millionths of an ohm, susceptances in kW/rad, currents in milliamperes.
use Rattle.std.specs.Prelude.{ℕ, ℤ, pos, negsuc, nat_abs, ◌+◌, ◌*◌, ◌/◌, ◌^◌, Bool, true, false, not, ◌==◌, ◌||◌, ◌&&◌, nat_lt, nat_le, int_lt, List, [], ◌∷◌, ◌++◌, length, slice_index, Option, Some, None, is_none, unwrap_or, if◌then◌else◌}
use Rattle.fb_types.specs.declared.grid.Branch.{Branch}
use Rattle.fb_types.specs.declared.grid.BranchKind.{BranchKind}
use Rattle.fb_types.specs.declared.grid.BranchKind.TheVariants as kinds
use Rattle.name_tables.specs.Names.{is_among}
use Rattle.ucte_lines.specs.Fields.{field_of, number_of}
use Rattle.ucte_reader.specs.Codes.{first_code, second_code, is_code, level_of, code_text, id_text}
use Rattle.first_fault.specs.Checks.{first_failing}
use Rattle.ucte_reader.specs.declared.block.Form.{Form}
use Rattle.ucte_reader.specs.declared.block.Form.TheVariants.{Line, Transformer}
use Rattle.ucte_reader.specs.declared.status.Status.{Status}
use Rattle.ucte_reader.specs.declared.status.Status.TheVariants.{Running, Out, ClosedCoupler, OpenCoupler}
use Rattle.ucte_reader.specs.declared.kind.GridKind.{GridKind}
use Rattle.ucte_reader.specs.declared.kind.GridKind.TheVariants.{BadCode, UnknownNode, BadStatus, DuplicateBranch, BadNumber, NegativeReactance, SusceptanceOutOfRange, TooMany}

-- ---- statuses: 0 and 1 in operation, 8 and 9 out, 2 a closed coupler, 7 an open coupler; couplers are lines

abbrev pub coupler_at : Form → ℕ → Option Status
coupler_at Line c = if c == 50 then Some ClosedCoupler else (if c == 55 then Some OpenCoupler else None)
coupler_at Transformer c = None

abbrev pub status_at : Form → List ℕ → Option Status
status_at form [] = None
status_at form (c ∷ []) =
    if (c == 48) || (c == 49) then Some Running
    else (if (c == 56) || (c == 57) then Some Out else coupler_at form c)
status_at form (c ∷ d ∷ cs) = None

abbrev pub is_running : Status → Bool
is_running Running = true
is_running Out = false
is_running ClosedCoupler = false
is_running OpenCoupler = false

abbrev pub is_coupler : Status → Bool
is_coupler Running = false
is_coupler Out = false
is_coupler ClosedCoupler = true
is_coupler OpenCoupler = true

abbrev pub is_in_operation : Status → Bool
is_in_operation Running = true
is_in_operation Out = false
is_in_operation ClosedCoupler = true
is_in_operation OpenCoupler = false

abbrev pub branch_kind : Form → Status → BranchKind
branch_kind Line status = if is_coupler status then kinds.Coupler else kinds.Line
branch_kind Transformer status = kinds.Transformer

-- ---- the fields, none where a field is bad

abbrev pub status_in : Form → List ℕ → Option Status
status_in form line = status_at form (field_of line 21 21)

-- the reactance X
abbrev pub reactance_in : Form → List ℕ → Option ℤ
reactance_in Line line = number_of (field_of line 30 35)
reactance_in Transformer line = number_of (field_of line 48 53)

-- the voltage of a level's digit
abbrev pub level_voltage : ℕ → ℕ
level_voltage level = slice_index (750 ∷ 380 ∷ 220 ∷ 150 ∷ 120 ∷ 110 ∷ 70 ∷ 27 ∷ 330 ∷ 500 ∷ []) level * 10 ^ 6

-- above 0 and at most 1000 kV
abbrev pub rated_voltage : Option ℤ → Option ℕ
rated_voltage None = None
rated_voltage (Some (pos n)) = if nat_lt 0 n && nat_le n (10 ^ 9) then Some n else None
rated_voltage (Some (negsuc n)) = None

-- the level voltage of node 1, or the rated voltage 1 of a transformer
abbrev pub voltage_in : Form → List ℕ → Option ℕ
voltage_in Line line = Some (level_voltage (level_of (first_code line)))
voltage_in Transformer line = rated_voltage (number_of (field_of line 23 27))

-- 0 is no limit; a milliampere is 1000 millionths of an ampere
abbrev pub current_limit_at : Option ℤ → Option (Option ℤ)
current_limit_at None = None
current_limit_at (Some (pos n)) = Some (if n == 0 then None else Some (pos (n / 1000)))
current_limit_at (Some (negsuc n)) = None

-- the current limit; blank is no limit
unfoldable pub current_limit_of : List ℕ → Option (Option ℤ)
current_limit_of text = if length text == 0 then Some None else current_limit_at (number_of text)

abbrev pub current_limit_in : Form → List ℕ → Option (Option ℤ)
current_limit_in Line line = current_limit_of (field_of line 46 51)
current_limit_in Transformer line = current_limit_of (field_of line 71 76)

-- ---- the susceptance

-- a reactance below 0.05 ohm counts as 0.05 ohm
abbrev pub least_reactance : ℕ
least_reactance = 50000

abbrev pub raised : ℕ → ℕ
raised reactance = if nat_lt reactance least_reactance then least_reactance else reactance

-- voltage^2 / reactance, rounded to the next whole number
unfoldable pub susceptance_of : ℕ → ℕ → ℕ
susceptance_of voltage reactance = (2 * voltage ^ 2 + 1000 * reactance) / (2000 * reactance)

abbrev pub known_status : Form → List ℕ → Status
known_status form line = unwrap_or (status_in form line) Out

abbrev pub known_reactance : Form → List ℕ → ℤ
known_reactance form line = unwrap_or (reactance_in form line) (pos 0)

abbrev pub susceptance_in : Form → List ℕ → ℕ
susceptance_in form line = susceptance_of (unwrap_or (voltage_in form line) 0) (raised (nat_abs (known_reactance form line)))

-- ---- the branch

-- a transformer's, by its id; a line has none
abbrev pub phase_by : (List ℕ → ℤ) → Form → List ℕ → ℤ
phase_by shift_of Line id = pos 0
phase_by shift_of Transformer id = shift_of id

-- The branch of a line, by the places of the nodes and the phase shifts of the regulations; a field with a fault counts as
-- out of operation, 0 or no limit.
unfoldable pub branch_of : (List ℕ → ℕ) → (List ℕ → ℤ) → Form → List ℕ → Branch
branch_of place_of shift_of form line = record {
  id = id_text line;
  kind = branch_kind form (known_status form line);
  from = place_of (code_text (first_code line));
  to = place_of (code_text (second_code line));
  in_operation = is_in_operation (known_status form line);
  b = if is_running (known_status form line) then pos (susceptance_in form line) else pos 0;
  phi = phase_by shift_of form (id_text line);
  current = unwrap_or (current_limit_in form line) None;
  floored = is_running (known_status form line) && nat_lt (nat_abs (known_reactance form line)) least_reactance;
}

-- ---- the checks of a line or a transformer, in order

-- of its ends, knowing the nodes of the file
abbrev pub end_checks : (List ℕ → Bool) → List ℕ → List (Bool × GridKind)
end_checks is_node line =
    (not (is_code (first_code line)) || not (is_code (second_code line)), BadCode)
    ∷ (not (is_node (code_text (first_code line))) || not (is_node (code_text (second_code line))), UnknownNode)
    ∷ []

-- of its numbers: a coupler needs no reactance, and a susceptance counts in operation alone
abbrev pub electrical_checks : Form → Status → List ℕ → List (Bool × GridKind)
electrical_checks form status line =
    ((is_none (reactance_in form line) && not (is_coupler status)) || is_none (voltage_in form line) || is_none (current_limit_in form line), BadNumber)
    ∷ (is_running status && int_lt (known_reactance form line) (pos 0), NegativeReactance)
    ∷ (is_running status && (nat_lt (susceptance_in form line) 1 || nat_lt (10 ^ 11) (susceptance_in form line)), SusceptanceOutOfRange)
    ∷ []

-- of the count of branches, after branches of these ids
abbrev pub count_checks : List (List ℕ) → List (Bool × GridKind)
count_checks earlier = (nat_lt 16384 (length earlier + 1), TooMany) ∷ []

-- all behind those of the ends
abbrev pub joined_checks : List (List ℕ) → Form → List ℕ → List (Bool × GridKind)
joined_checks earlier form line =
    (is_none (status_in form line), BadStatus)
    ∷ (is_among earlier (id_text line), DuplicateBranch)
    ∷ (electrical_checks form (known_status form line) line ++ count_checks earlier)

abbrev pub branch_checks : (List ℕ → Bool) → List (List ℕ) → Form → List ℕ → List (Bool × GridKind)
branch_checks is_node earlier form line = end_checks is_node line ++ joined_checks earlier form line

-- the first that fails, knowing the nodes of the file, after branches of these ids
unfoldable pub branch_fault : (List ℕ → Bool) → List (List ℕ) → Form → List ℕ → Option GridKind
branch_fault is_node earlier form line = first_failing (branch_checks is_node earlier form line)
