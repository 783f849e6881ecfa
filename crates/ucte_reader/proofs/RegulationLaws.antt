-- The setting of a regulation line, and its phase shift.
use Rattle.std.proofs.Common.{◌≡◌, ℕ, ℤ, pos, cond, List, [], ◌∷◌, ◌||◌, Option, Some, None, Result, Ok, Err, sym, ap, ◌∙◌}
use Rattle.std.specs.Prelude.{is_none, is_some, is_err, nat_abs, nat_lt, unwrap_or}
use Rattle.std.specs.Result.{result_unwrap_or}
use Rattle.phase_rule.specs.Shift.{phase_shift_of}
use Rattle.phase_rule.specs.declared.PhaseFault.{PhaseFault}
use Rattle.phase_rule.specs.declared.Regulation.TheVariants.{Asym}
use Rattle.ucte_reader.specs.Regulations.{type_in, known_angle, half_turn, shift_answer, shift_of, step_in, angle_in, tap_in}
use Rattle.ucte_reader.specs.Steps.{Makes, setting_number_fault, setting_answer, phase_fault, setting_fault, IsSetting}
use Rattle.ucte_reader.specs.declared.regulations.Setting.{Setting}
use Rattle.ucte_reader.specs.declared.kind.GridKind.{GridKind}
use Rattle.ucte_reader.specs.declared.kind.GridKind.TheVariants.{BadNumber, BadPhase}
use Rattle.ucte_reader.specs.declared.kind.LineError.{LineError}
use Rattle.ucte_reader.specs.declared.kind.LineError.TheVariants.{Fault, Memory}
use Rattle.first_fault.proofs.CheckLaws.{first_failing-append, option_or-none}

answer_is : (line : List ℕ) (setting : Setting) → IsSetting line setting → setting_answer setting ≡ shift_answer line
unfolding shift_answer
answer_is line setting is = λ i. phase_shift_of (is.step_is i) (is.angle_is i) (is.tap_is i) (unwrap_or (is.kind_is i) Asym)

-- behind the checks of the numbers, the fault of a line's setting is that of its phase
fault_is : (line : List ℕ) (setting : Setting) → IsSetting line setting → setting_number_fault line ≡ None → setting_fault line ≡ phase_fault setting
fault_is line setting is none =
    first_failing-append ((is_none (step_in line) || is_none (angle_in line) || is_none (tap_in line), BadNumber) ∷ []) ((is_none (type_in line) || nat_lt half_turn (nat_abs (known_angle line)) || is_err (shift_answer line), BadPhase) ∷ [])
    ∙ option_or-none (setting_number_fault line) _ none
    ∙ (λ i. cond (is_none (sym is.kind_is i) || nat_lt half_turn (nat_abs (sym is.angle_is i)) || is_err (sym (answer_is line setting is) i)) (Some BadPhase) None)

shift_is : (line : List ℕ) (phi : ℤ) → setting_fault line ≡ None → shift_answer line ≡ Ok phi → phi ≡ shift_of line
unfolding shift_of
shift_is line phi none answer =
    sym (ap (λ (o : Option GridKind). cond (is_some o) (pos 0) (result_unwrap_or (shift_answer line) (pos 0))) none ∙ ap (λ (r : Result ℤ PhaseFault). result_unwrap_or r (pos 0)) answer)

pub Makes-shift : (line : List ℕ) (setting : Setting) (r : Result ℤ LineError) → IsSetting line setting → setting_number_fault line ≡ None
    → Makes r (phase_fault setting) (λ phi. setting_answer setting ≡ Ok phi) → Makes r (setting_fault line) (λ phi. phi ≡ shift_of line)
Makes-shift line setting (Ok phi) is none made =
    let whole = fault_is line setting is none ∙ made.0 in
    (whole, shift_is line phi whole (sym (answer_is line setting is) ∙ made.1))
Makes-shift line setting (Err (Memory e)) is none made = tt
Makes-shift line setting (Err (Fault kind)) is none made = fault_is line setting is none ∙ made
