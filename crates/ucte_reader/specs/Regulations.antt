-- Regulation lines of the UCTE data exchange format. A step of the tap is in millionths of a per cent, an angle in
-- millionths of a degree, a phase shift in 10^-12 rad.
use Rattle.std.specs.Prelude.{ℕ, ℤ, pos, nat_abs, ◌*◌, ◌%◌, ◌^◌, Bool, true, false, not, ◌==◌, ◌||◌, ◌&&◌, nat_lt, nat_le, int_div, List, [], ◌∷◌, Option, Some, None, is_none, unwrap_or, is_some, Result, is_err, if◌then◌else◌, codes}
use Rattle.std.specs.Result.{result_unwrap_or}
use Rattle.std.specs.Str.{bytes_eq}
use Rattle.phase_rule.specs.Shift.{phase_shift_of}
use Rattle.phase_rule.specs.declared.PhaseFault.{PhaseFault}
use Rattle.phase_rule.specs.declared.Regulation.{Regulation}
use Rattle.phase_rule.specs.declared.Regulation.TheVariants.{Asym, Symm}
use Rattle.name_tables.specs.Names.{is_among}
use Rattle.ucte_lines.specs.Fields.{field_of, number_of, number_or_zero}
use Rattle.ucte_reader.specs.Codes.{first_code, second_code, is_code, id_text}
use Rattle.first_fault.specs.Checks.{first_failing}
use Rattle.ucte_reader.specs.declared.kind.GridKind.{GridKind}
use Rattle.ucte_reader.specs.declared.kind.GridKind.TheVariants.{BadCode, UnknownBranch, DuplicateBranch, BadNumber, BadPhase}

-- ---- the fields, none where a field is bad

-- ASYM or SYMM; blank is ASYM
abbrev pub type_at : List ℕ → Option Regulation
type_at [] = Some Asym
type_at (c ∷ cs) =
    if bytes_eq (c ∷ cs) (codes "ASYM") then Some Asym
    else (if bytes_eq (c ∷ cs) (codes "SYMM") then Some Symm else None)

abbrev pub type_in : List ℕ → Option Regulation
type_in line = type_at (field_of line 65 68)

abbrev pub step_in : List ℕ → Option ℤ
step_in line = number_or_zero (field_of line 40 44)

-- a whole number within 999
abbrev pub whole_tap : Option ℤ → Option ℤ
whole_tap None = None
whole_tap (Some z) = if (nat_abs z % 10 ^ 6 == 0) && nat_le (nat_abs z) (999 * 10 ^ 6) then Some (int_div z (pos (10 ^ 6))) else None

-- the present tap
abbrev pub tap_in : List ℕ → Option ℤ
tap_in line = whole_tap (number_or_zero (field_of line 55 57))

abbrev pub is_symmetrical : Option Regulation → Bool
is_symmetrical None = false
is_symmetrical (Some Asym) = false
is_symmetrical (Some Symm) = true

abbrev pub known_step : List ℕ → ℤ
known_step line = unwrap_or (step_in line) (pos 0)

-- the angle is judged where the type is not SYMM and the step is not 0
abbrev pub judges_angle : List ℕ → Bool
judges_angle line = not (is_symmetrical (type_in line)) && not (nat_abs (known_step line) == 0)

-- the judged angle; one that is not judged counts as 0
abbrev pub angle_in : List ℕ → Option ℤ
angle_in line = if judges_angle line then number_of (field_of line 46 50) else Some (pos 0)

abbrev pub known_angle : List ℕ → ℤ
known_angle line = unwrap_or (angle_in line) (pos 0)

-- ---- the phase shift

abbrev pub half_turn : ℕ
half_turn = 180 * 10 ^ 6

-- what the phase rule gives for the fields of a line; a field with a fault counts as 0 or as blank
unfoldable pub shift_answer : List ℕ → Result ℤ PhaseFault
shift_answer line = phase_shift_of (known_step line) (known_angle line) (unwrap_or (tap_in line) (pos 0)) (unwrap_or (type_in line) Asym)

-- the checks of the setting of a line, in order
abbrev pub setting_checks : List ℕ → List (Bool × GridKind)
setting_checks line =
    (is_none (step_in line) || is_none (angle_in line) || is_none (tap_in line), BadNumber)
    ∷ (is_none (type_in line) || nat_lt half_turn (nat_abs (known_angle line)) || is_err (shift_answer line), BadPhase)
    ∷ []

-- the phase shift of a line; a setting with a fault gives 0
unfoldable pub shift_of : List ℕ → ℤ
shift_of line = if is_some (first_failing (setting_checks line)) then pos 0 else result_unwrap_or (shift_answer line) (pos 0)

-- the checks of a regulation line, in order, knowing the transformers of the file, after regulations of these ids
unfoldable pub regulation_fault : (List ℕ → Bool) → List (List ℕ) → List ℕ → Option GridKind
regulation_fault is_transformer earlier line = first_failing (
    (not (is_code (first_code line)) || not (is_code (second_code line)), BadCode)
    ∷ (not (is_transformer (id_text line)), UnknownBranch)
    ∷ (is_among earlier (id_text line), DuplicateBranch)
    ∷ setting_checks line)
