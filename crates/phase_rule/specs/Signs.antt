-- Which way a phase shift goes.
use Rattle.std.specs.Prelude.{◌≡◌, ◌↔◌, ℤ, pos, neg_ℤ, ◌*◌, ◌*ℤ◌, ◌≤ℤ◌, ◌<ℤ◌, nat_abs, Ok}
use Rattle.phase_rule.specs.Trigonometry.{one}
use Rattle.phase_rule.specs.Shift.{added_voltage, numerator_of, denominator_of, phase_shift_of}
use Rattle.phase_rule.specs.declared.Regulation.TheVariants.{Asym, Symm}

-- a is above, below or at 0 where b is
pub record HasSignOf (a b : ℤ) : Type 0 where
  pub above : pos 0 <ℤ b → pos 0 <ℤ a
  pub below : b <ℤ pos 0 → a <ℤ pos 0
  pub none : b ≡ pos 0 → a ≡ pos 0

-- a is at 0 or on b's side of it
pub record IsNotAgainst (a b : ℤ) : Type 0 where
  pub not_below : pos 0 ≤ℤ b → pos 0 ≤ℤ a
  pub not_above : b ≤ℤ pos 0 → a ≤ℤ pos 0

-- a symmetrical shift has the sign of the tap times the step, whatever the angle
abbrev pub SymmetricalFollowsTap : Type 0
SymmetricalFollowsTap = (step angle tap phase : ℤ) → phase_shift_of step angle tap Symm ≡ Ok phase → HasSignOf phase (tap *ℤ step)

-- the opposite tap gives the opposite symmetrical shift
abbrev pub SymmetricalTurnsWithTap : Type 0
SymmetricalTurnsWithTap = (step angle tap phase : ℤ) → phase_shift_of step angle tap Symm ≡ Ok phase → phase_shift_of step angle (neg_ℤ tap) Symm ≡ Ok (neg_ℤ phase)

-- the shift is on the numerator's side of 0, and at 0 exactly where the tangent, rounded down, is
pub record FollowsNumerator (phase n m : ℤ) : Type 0 where
  pub side : IsNotAgainst phase n
  pub none : (phase ≡ pos 0) ↔ (pos (nat_abs n * one) <ℤ m)

abbrev pub AsymmetricalFollowsNumerator : Type 0
AsymmetricalFollowsNumerator = (step angle tap phase : ℤ) → phase_shift_of step angle tap Asym ≡ Ok phase
    → FollowsNumerator phase (numerator_of (added_voltage step tap) angle) (denominator_of (added_voltage step tap) angle)
