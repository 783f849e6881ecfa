-- The phase shift of a regulated transformer. A step of the tap is in millionths of a per cent, an angle in millionths of a
-- degree, the shift in 10^-12 rad.
use Rattle.std.specs.Prelude.{ℕ, ℤ, pos, neg_ℤ, nat_abs, ◌*◌, ◌/◌, ◌^◌, ◌+ℤ◌, ◌*ℤ◌, int_lt, int_le, int_div, ◌==◌, ◌||◌, Result, Ok, Err, if◌then◌else◌}
use Rattle.phase_rule.specs.Trigonometry.{one, sine_of, cosine_of, arc_tangent_of}
use Rattle.phase_rule.specs.declared.Regulation.{Regulation}
use Rattle.phase_rule.specs.declared.Regulation.TheVariants.{Asym, Symm}
use Rattle.phase_rule.specs.declared.PhaseFault.{PhaseFault}
use Rattle.phase_rule.specs.declared.PhaseFault.TheVariants.{Denominator}

-- the voltage that the tap adds, per unit, in 10^-12
abbrev pub added_voltage : ℤ → ℤ → ℤ
added_voltage step tap = tap *ℤ step *ℤ pos (10 ^ 4)

-- value with the sign of z
abbrev pub signed : ℤ → ℤ → ℤ
signed z value = if int_lt z (pos 0) then neg_ℤ value else value

-- ---- asymmetrical: the voltage is added at the regulation's angle to the voltage of node 1

-- the part of the sum across the voltage of node 1, rounded towards 0
unfoldable pub numerator_of : ℤ → ℤ → ℤ
numerator_of added angle = int_div (added *ℤ sine_of angle) (pos one)

-- the part of the sum along it
unfoldable pub denominator_of : ℤ → ℤ → ℤ
denominator_of added angle = pos one +ℤ int_div (added *ℤ cosine_of angle) (pos one)

-- the tangent of the shift's size, rounded down, where the denominator is positive
abbrev pub tangent_of : ℤ → ℤ → ℕ
tangent_of added angle = nat_abs (numerator_of added angle) * one / nat_abs (denominator_of added angle)

unfoldable pub asymmetrical_shift_of : ℤ → ℤ → Result ℤ PhaseFault
asymmetrical_shift_of added angle =
    if int_le (denominator_of added angle) (pos 0) then Err Denominator
    else Ok (signed (numerator_of added angle) (arc_tangent_of (tangent_of added angle)))

-- ---- symmetrical: half of the voltage is added at either end, at 90 degrees whatever the regulation's angle

unfoldable pub symmetrical_shift_of : ℤ → ℤ
symmetrical_shift_of added = signed added (pos 2 *ℤ arc_tangent_of (nat_abs added / 2))

-- ---- the shift, 0 with step 0 or tap 0

unfoldable pub regulated_shift_of : ℤ → ℤ → Regulation → Result ℤ PhaseFault
regulated_shift_of added angle Asym = asymmetrical_shift_of added angle
regulated_shift_of added angle Symm = Ok (symmetrical_shift_of added)

unfoldable pub phase_shift_of : ℤ → ℤ → ℤ → Regulation → Result ℤ PhaseFault
phase_shift_of step angle tap kind =
    if (nat_abs step == 0) || (nat_abs tap == 0) then Ok (pos 0)
    else regulated_shift_of (added_voltage step tap) angle kind
