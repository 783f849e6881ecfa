-- What an asymmetrical regulation answers.
use Rattle.std.proofs.Common.{◌≡◌, ℕ, ℤ, pos, ◌*◌, ◌/◌, Bool, true, false, cond, Result, Ok, Err, sym, ap, ◌∙◌}
use Rattle.std.specs.Prelude.{int_le, nat_abs}
use Rattle.phase_rule.specs.Trigonometry.{one, arc_tangent_of}
use Rattle.phase_rule.specs.Shift.{numerator_of, denominator_of, signed, asymmetrical_shift_of}
use Rattle.phase_rule.specs.declared.PhaseFault.{PhaseFault}
use Rattle.phase_rule.specs.declared.PhaseFault.TheVariants.{Denominator}

-- of a numerator and a denominator
abbrev pub outcome : ℤ → ℤ → Result ℤ PhaseFault
outcome n d = cond (int_le d (pos 0)) (Err Denominator) (Ok (signed n (arc_tangent_of (nat_abs n * one / nat_abs d))))

pub outcome_is : (added angle n d : ℤ) → n ≡ numerator_of added angle → d ≡ denominator_of added angle → outcome n d ≡ asymmetrical_shift_of added angle
unfolding asymmetrical_shift_of
outcome_is added angle n d e f = ap (λ (z : ℤ). outcome z d) e ∙ ap (outcome (numerator_of added angle)) f

pub refused : (added angle d : ℤ) → d ≡ denominator_of added angle → int_le d (pos 0) ≡ true → Err Denominator ≡ asymmetrical_shift_of added angle
unfolding asymmetrical_shift_of
refused added angle d e le =
    let n = numerator_of added angle in
    sym (ap (λ (b : Bool). cond b (Err Denominator) (Ok (signed n (arc_tangent_of (nat_abs n * one / nat_abs d))))) le) ∙ ap (outcome n) e

pub shifted : (added angle n d : ℤ) (tangent size : ℕ) (r : ℤ) → n ≡ numerator_of added angle → d ≡ denominator_of added angle → int_le d (pos 0) ≡ false
    → tangent ≡ nat_abs n * one / nat_abs d → pos size ≡ arc_tangent_of tangent → r ≡ signed n (pos size) → Ok r ≡ asymmetrical_shift_of added angle
shifted added angle n d tangent size r e f gt t a v =
    ap (λ (z : ℤ). Ok z) (v ∙ ap (signed n) (a ∙ ap arc_tangent_of t))
    ∙ sym (ap (λ (b : Bool). cond b (Err Denominator) (Ok (signed n (arc_tangent_of (nat_abs n * one / nat_abs d))))) gt)
    ∙ outcome_is added angle n d e f
