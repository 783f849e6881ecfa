-- Which way a phase shift goes.
use Rattle.std.proofs.Common.{◌≡◌, ◌↔◌, ℕ, zero, suc, ℤ, pos, negsuc, neg_ℤ, ◌*◌, ◌/◌, ◌<◌, ◌≤◌, ◌+ℤ◌, ◌*ℤ◌, ◌≤ℤ◌, ◌<ℤ◌, Bool, true, false, cond, ◌||◌, inl, inr, Result, Ok, Err, refl, sym, ap, subst, ◌∙◌, arith}
use Rattle.std.specs.Prelude.{int_lt, int_le, int_div, nat_abs, ◌==◌}
use Rattle.std.proofs.Math.Nat.{div-eq_of_lt, zero-div}
use mir.Syntax.{w32, w64}
use mir.Val.{SFits, of_z}
use Rattle.std.proofs.lemmas.Nat.{le-div}
use Rattle.std.proofs.lemmas.Bool.Decides.{nat_tests}
use Rattle.std.proofs.lemmas.Int.{ints, unsigned_abs-mul}
use Rattle.std.proofs.lemmas.Bool.{or_cases, eqb-true, cases_lt}
use Rattle.whole_laws.specs.Ring.{*ℤ-zero, zero-*ℤ, neg-*ℤ}
use Rattle.phase_rule.specs.Trigonometry.{one, sine_of, cosine_of, arc_tangent_of}
use Rattle.phase_rule.specs.Shift.{added_voltage, signed, numerator_of, denominator_of, asymmetrical_shift_of, symmetrical_shift_of, regulated_shift_of, phase_shift_of}
use Rattle.phase_rule.specs.Signs.{HasSignOf, IsNotAgainst, FollowsNumerator}
use Rattle.phase_rule.specs.declared.Regulation.{Regulation}
use Rattle.phase_rule.specs.declared.Regulation.TheVariants.{Asym, Symm}
use Rattle.phase_rule.specs.declared.PhaseFault.{PhaseFault}
use Rattle.phase_rule.specs.declared.PhaseFault.TheVariants.{Denominator}
use Rattle.phase_rule.proofs.Outcome.{outcome, outcome_is}
use Rattle.phase_rule.proofs.ArcBounds.{arc_tangent_positive, arc_tangent_zero}

-- ---- answers

abbrev pub answered : ℤ → Result ℤ PhaseFault
answered shift = Ok shift

answered_same : (a b : ℤ) → answered a ≡ answered b → a ≡ b
answered_same a b e = cc

fault_not_answered : (a : ℤ) → answered a ≡ Err Denominator → ⊥
fault_not_answered a e = cc

-- ---- a value with a sign

signed_above : (z v : ℤ) → pos 0 ≤ℤ z → signed z v ≡ v
signed_above z v h = let e : int_lt z (pos 0) ≡ false = grind (arith, ints) in ap (λ (b : Bool). cond b (neg_ℤ v) v) e

signed_below : (z v : ℤ) → z <ℤ pos 0 → signed z v ≡ neg_ℤ v
signed_below z v h = let e : int_lt z (pos 0) ≡ true = grind (arith, ints) in ap (λ (b : Bool). cond b (neg_ℤ v) v) e

signed_cases : {P : Type 0} (z : ℤ) → (pos 0 ≤ℤ z → P) → (z <ℤ pos 0 → P) → P
signed_cases (pos n) f g = f (omega (arith, ints))
signed_cases (negsuc n) f g = g (omega (arith, ints))

-- a value that is positive where z is not 0
signed_follows : (z v : ℤ) → (z ≡ pos 0 → v ≡ pos 0) → (0 < nat_abs z → pos 0 <ℤ v) → HasSignOf (signed z v) z
signed_follows (pos zero) v none some = let e = signed_above (pos 0) v (omega (arith, ints)) in let n = none refl in record { above = λ h. absurd (omega (arith, ints, h)); below = λ h. absurd (omega (arith, ints, h)); none = λ h. e ∙ n }
signed_follows (pos (suc n)) v none some =
    let e = signed_above (pos (suc n)) v (omega (arith, ints)) in
    let p : pos 0 <ℤ v = some (omega arith) in
    record { above = λ h. omega (arith, ints, e, p); below = λ h. absurd (omega (arith, ints, h)); none = λ h. absurd (omega (arith, ints, h)) }
signed_follows (negsuc n) v none some =
    let e = signed_below (negsuc n) v (omega (arith, ints)) in
    let p : pos 0 <ℤ v = some (omega arith) in
    record { above = λ h. absurd (omega (arith, ints, h)); below = λ h. omega (arith, ints, e, p); none = λ h. absurd (omega (arith, ints, h)) }

signed_opposite : (z v : ℤ) → (z ≡ pos 0 → v ≡ pos 0) → signed (neg_ℤ z) v ≡ neg_ℤ (signed z v)
signed_opposite (pos zero) v none = let n = none refl in n ∙ sym (ap neg_ℤ n)
signed_opposite (pos (suc n)) v none = signed_below (negsuc n) v (omega (arith, ints)) ∙ sym (ap neg_ℤ (signed_above (pos (suc n)) v (omega (arith, ints))))
signed_opposite (negsuc n) v none =
    signed_above (pos (suc n)) v (omega (arith, ints)) ∙ omega (arith, ints) ∙ sym (ap neg_ℤ (signed_below (negsuc n) v (omega (arith, ints))))

signed_not_against : (z v : ℤ) → pos 0 ≤ℤ v → (z ≡ pos 0 → v ≡ pos 0) → IsNotAgainst (signed z v) z
signed_not_against z v h none = signed_cases z
    (λ above. let e = signed_above z v above in record { not_below = λ k. omega (arith, ints, e, h); not_above = λ k. let n = none (omega (arith, ints, above, k)) in omega (arith, ints, e, n) })
    (λ below. let e = signed_below z v below in record { not_below = λ k. absurd (omega (arith, ints, below, k)); not_above = λ k. omega (arith, ints, e, h) })

-- ---- the voltage that is added

added_size : (step tap : ℤ) → nat_abs (added_voltage step tap) ≡ nat_abs (tap *ℤ step) * 10000
added_size step tap = unsigned_abs-mul (tap *ℤ step) (pos 10000)

added_zero : (step tap : ℤ) → tap *ℤ step ≡ pos 0 → added_voltage step tap ≡ pos 0
added_zero step tap e = ap (λ (z : ℤ). z *ℤ pos 10000) e

added_above : (step tap : ℤ) → pos 0 <ℤ (tap *ℤ step) → pos 0 <ℤ added_voltage step tap
added_above step tap h = omega (arith, ints, h)

added_below : (step tap : ℤ) → (tap *ℤ step) <ℤ pos 0 → added_voltage step tap <ℤ pos 0
added_below step tap h = omega (arith, ints, h)

size_is_zero : (z : ℤ) → nat_abs z ≡ 0 → z ≡ pos 0
size_is_zero z e = omega (arith, ints, e)

-- the test that step or tap is 0
abbrev is_idle : ℤ → ℤ → Bool
is_idle step tap = (nat_abs step == 0) || (nat_abs tap == 0)

zero_product : (step tap : ℤ) → is_idle step tap ≡ true → tap *ℤ step ≡ pos 0
zero_product step tap e = elim (or_cases (nat_abs step == 0) (nat_abs tap == 0) e) [
  | inl h ↦ ap (λ (z : ℤ). tap *ℤ z) (size_is_zero step (eqb-true (nat_abs step) 0 h)) ∙ *ℤ-zero tap
  | inr h ↦ ap (λ (z : ℤ). z *ℤ step) (size_is_zero tap (eqb-true (nat_abs tap) 0 h)) ∙ zero-*ℤ step
]

-- ---- symmetrical

size_zero : (z : ℤ) → z ≡ pos 0 → pos 2 *ℤ arc_tangent_of (nat_abs z / 2) ≡ pos 0
size_zero z e = ap (λ (y : ℤ). pos 2 *ℤ arc_tangent_of (nat_abs y / 2)) e ∙ ap (λ (v : ℤ). pos 2 *ℤ v) arc_tangent_zero

size_positive : (z : ℤ) → 1 < nat_abs z → pos 0 <ℤ (pos 2 *ℤ arc_tangent_of (nat_abs z / 2))
size_positive z h = let p = (arc_tangent_positive (nat_abs z / 2)).positive (omega arith) in omega (arith, ints, p)

follows_added : (step tap phase : ℤ) → HasSignOf phase (added_voltage step tap) → HasSignOf phase (tap *ℤ step)
follows_added step tap phase h = record {
  above = λ k. h.above (added_above step tap k);
  below = λ k. h.below (added_below step tap k);
  none = λ k. h.none (added_zero step tap k);
}

symmetrical_follows : (step tap : ℤ) → HasSignOf (symmetrical_shift_of (added_voltage step tap)) (tap *ℤ step)
unfolding symmetrical_shift_of
symmetrical_follows step tap =
    let added = added_voltage step tap in
    follows_added step tap (symmetrical_shift_of added)
    (signed_follows added (pos 2 *ℤ arc_tangent_of (nat_abs added / 2)) (size_zero added) (λ h. size_positive added (omega (arith, added_size step tap, h))))

symmetrical_case : (step tap phase : ℤ) (idle : Bool) → is_idle step tap ≡ idle → cond idle (Ok (pos 0)) (Ok (symmetrical_shift_of (added_voltage step tap))) ≡ answered phase
    → HasSignOf phase (tap *ℤ step)
symmetrical_case step tap phase true i e =
    let zero : pos 0 ≡ phase = cc in
    let none = zero_product step tap i in
    record { above = λ h. absurd (omega (arith, ints, none, h)); below = λ h. absurd (omega (arith, ints, none, h)); none = λ _. sym zero }
symmetrical_case step tap phase false i e =
    let same : symmetrical_shift_of (added_voltage step tap) ≡ phase = cc in
    subst (λ (z : ℤ). HasSignOf z (tap *ℤ step)) same (symmetrical_follows step tap)

pub symmetrical_follows_tap : (step angle tap phase : ℤ) → phase_shift_of step angle tap Symm ≡ Ok phase → HasSignOf phase (tap *ℤ step)
unfolding phase_shift_of regulated_shift_of
symmetrical_follows_tap step angle tap phase e = symmetrical_case step tap phase (is_idle step tap) refl e

-- ---- the opposite tap

size_opposite : (z : ℤ) → nat_abs (neg_ℤ z) ≡ nat_abs z
size_opposite (pos zero) = refl
size_opposite (pos (suc n)) = refl
size_opposite (negsuc n) = refl

added_opposite : (step tap : ℤ) → added_voltage step (neg_ℤ tap) ≡ neg_ℤ (added_voltage step tap)
added_opposite step tap = ap (λ (z : ℤ). z *ℤ pos 10000) (neg-*ℤ tap step) ∙ neg-*ℤ (tap *ℤ step) (pos 10000)

symmetrical_opposite : (added : ℤ) → symmetrical_shift_of (neg_ℤ added) ≡ neg_ℤ (symmetrical_shift_of added)
unfolding symmetrical_shift_of
symmetrical_opposite added =
    ap (λ (n : ℕ). signed (neg_ℤ added) (pos 2 *ℤ arc_tangent_of (n / 2))) (size_opposite added)
    ∙ signed_opposite added (pos 2 *ℤ arc_tangent_of (nat_abs added / 2)) (size_zero added)

opposite_case : (shift phase : ℤ) (idle : Bool) → cond idle (Ok (pos 0)) (Ok shift) ≡ answered phase
    → cond idle (Ok (pos 0)) (Ok (neg_ℤ shift)) ≡ answered (neg_ℤ phase)
opposite_case shift phase true e = let zero : pos 0 ≡ phase = cc in ap (λ (z : ℤ). Ok (neg_ℤ z)) zero
opposite_case shift phase false e = let same : shift ≡ phase = cc in ap (λ (z : ℤ). Ok (neg_ℤ z)) same

pub symmetrical_turns : (step angle tap phase : ℤ) → phase_shift_of step angle tap Symm ≡ Ok phase → phase_shift_of step angle (neg_ℤ tap) Symm ≡ Ok (neg_ℤ phase)
unfolding phase_shift_of regulated_shift_of
symmetrical_turns step angle tap phase e =
    let answer : Bool → ℤ → Result ℤ PhaseFault = λ idle shift. cond idle (Ok (pos 0)) (Ok shift) in
    ap (λ (n : ℕ). answer ((nat_abs step == 0) || (n == 0)) (symmetrical_shift_of (added_voltage step (neg_ℤ tap)))) (size_opposite tap)
    ∙ ap (answer (is_idle step tap)) (ap symmetrical_shift_of (added_opposite step tap) ∙ symmetrical_opposite (added_voltage step tap))
    ∙ opposite_case (symmetrical_shift_of (added_voltage step tap)) phase (is_idle step tap) e

-- ---- asymmetrical

no_size : (n : ℤ) (k : ℕ) → n ≡ pos 0 → arc_tangent_of (nat_abs n * one / suc k) ≡ pos 0
no_size n k e = ap (λ (z : ℤ). arc_tangent_of (nat_abs z * one / suc k)) e ∙ ap arc_tangent_of (omega_zero k) ∙ arc_tangent_zero
  where
    omega_zero : (k : ℕ) → 0 / suc k ≡ 0
    omega_zero k = zero-div (suc k)

below_divisor : (a b : ℕ) → a < b → a / b ≡ 0
below_divisor a b lt = div-eq_of_lt lt

not_below_divisor : (a b : ℕ) → 0 < b → b ≤ a → 0 < a / b
not_below_divisor a b some le = omega (arith, le-div 1 a b some (omega arith))

signed_none : (z v : ℤ) → v ≡ pos 0 → signed z v ≡ pos 0
signed_none z v e = signed_cases z (λ h. signed_above z v h ∙ e) (λ h. signed_below z v h ∙ ap neg_ℤ e)

signed_some : (z v : ℤ) → pos 0 <ℤ v → signed z v ≡ pos 0 → ⊥
signed_some z v p e = signed_cases z (λ h. let s = signed_above z v h in omega (arith, ints, s, p, e)) (λ h. let s = signed_below z v h in omega (arith, ints, s, p, e))

-- over a positive denominator
positive_follows : (n : ℤ) (k : ℕ) → FollowsNumerator (signed n (arc_tangent_of (nat_abs n * one / suc k))) n (pos (suc k))
positive_follows n k =
    let tangent = nat_abs n * one / suc k in
    let arc = arc_tangent_positive tangent in
    record {
      side = signed_not_against n (arc_tangent_of tangent) arc.low (no_size n k);
      none = (
        (λ e. elim (cases_lt (nat_abs n * one) (suc k)) [
          | inl lt ↦ omega (arith, ints, lt)
          | inr ge ↦ absurd (signed_some n (arc_tangent_of tangent) (arc.positive (not_below_divisor (nat_abs n * one) (suc k) (omega arith) ge)) e)
        ]),
        (λ lt. signed_none n (arc_tangent_of tangent) (ap arc_tangent_of (below_divisor (nat_abs n * one) (suc k) (omega (arith, ints, lt))) ∙ arc_tangent_zero)),
      );
    }

positive_outcome : (n : ℤ) (k : ℕ) → outcome n (pos (suc k)) ≡ answered (signed n (arc_tangent_of (nat_abs n * one / suc k)))
positive_outcome n k =
    let above : int_le (pos (suc k)) (pos 0) ≡ false = grind (arith, ints) in
    ap (λ (b : Bool). cond b (Err Denominator) (answered (signed n (arc_tangent_of (nat_abs n * one / suc k))))) above

outcome_follows : (n m phase : ℤ) → outcome n m ≡ Ok phase → FollowsNumerator phase n m
outcome_follows n (pos zero) phase e = absurd cc
outcome_follows n (pos (suc k)) phase e =
    let same : signed n (arc_tangent_of (nat_abs n * one / suc k)) ≡ phase = answered_same (signed n (arc_tangent_of (nat_abs n * one / suc k))) phase (sym (positive_outcome n k) ∙ e) in
    subst (λ (z : ℤ). FollowsNumerator z n (pos (suc k))) same (positive_follows n k)
outcome_follows n (negsuc k) phase e = absurd cc

-- with no voltage that is added
idle_numerator : (added angle : ℤ) → added ≡ pos 0 → numerator_of added angle ≡ pos 0
unfolding numerator_of
idle_numerator added angle e = ap (λ (z : ℤ). int_div (z *ℤ sine_of angle) (pos one)) e ∙ ap (λ (z : ℤ). int_div z (pos one)) (zero-*ℤ (sine_of angle))

idle_denominator : (added angle : ℤ) → added ≡ pos 0 → denominator_of added angle ≡ pos one
unfolding denominator_of
idle_denominator added angle e = ap (λ (z : ℤ). pos one +ℤ int_div (z *ℤ cosine_of angle) (pos one)) e ∙ ap (λ (z : ℤ). pos one +ℤ int_div z (pos one)) (zero-*ℤ (cosine_of angle))

idle_follows : (n m phase : ℤ) → n ≡ pos 0 → m ≡ pos one → phase ≡ pos 0 → FollowsNumerator phase n m
idle_follows n m phase e f g = record {
  side = record { not_below = λ _. omega (arith, ints, g); not_above = λ _. omega (arith, ints, g) };
  none = ((λ _. subst (λ (z : ℤ). pos (nat_abs z * one) <ℤ m) (sym e) (omega (arith, ints, f))), (λ _. g));
}

asymmetrical_case : (step angle tap phase : ℤ) (idle : Bool) → is_idle step tap ≡ idle → cond idle (Ok (pos 0)) (asymmetrical_shift_of (added_voltage step tap) angle) ≡ Ok phase
    → FollowsNumerator phase (numerator_of (added_voltage step tap) angle) (denominator_of (added_voltage step tap) angle)
asymmetrical_case step angle tap phase true i e =
    let zero : pos 0 ≡ phase = cc in
    let added = added_voltage step tap in
    let none = added_zero step tap (zero_product step tap i) in
    idle_follows (numerator_of added angle) (denominator_of added angle) phase (idle_numerator added angle none) (idle_denominator added angle none) (sym zero)
asymmetrical_case step angle tap phase false i e =
    let added = added_voltage step tap in
    outcome_follows (numerator_of added angle) (denominator_of added angle) phase (outcome_is added angle (numerator_of added angle) (denominator_of added angle) refl refl ∙ e)

pub asymmetrical_follows : (step angle tap phase : ℤ) → phase_shift_of step angle tap Asym ≡ Ok phase
    → FollowsNumerator phase (numerator_of (added_voltage step tap) angle) (denominator_of (added_voltage step tap) angle)
unfolding phase_shift_of regulated_shift_of
asymmetrical_follows step angle tap phase e = asymmetrical_case step angle tap phase (is_idle step tap) refl e

-- ---- where there is no shift

outcome_faults : (n m : ℤ) → outcome n m ≡ Err Denominator → m ≤ℤ pos 0
outcome_faults n (pos zero) e = omega (arith, ints)
outcome_faults n (pos (suc k)) e = absurd (fault_not_answered (signed n (arc_tangent_of (nat_abs n * one / suc k))) (sym (positive_outcome n k) ∙ e))
outcome_faults n (negsuc k) e = omega (arith, ints)

faults_outcome : (n m : ℤ) → m ≤ℤ pos 0 → outcome n m ≡ Err Denominator
faults_outcome n (pos zero) h = refl
faults_outcome n (pos (suc k)) h = absurd (omega (arith, ints, h))
faults_outcome n (negsuc k) h = refl

fault_case : (step angle tap : ℤ) (idle : Bool) → is_idle step tap ≡ idle
    → (cond idle (Ok (pos 0)) (asymmetrical_shift_of (added_voltage step tap) angle) ≡ Err Denominator) ↔ (denominator_of (added_voltage step tap) angle ≤ℤ pos 0)
fault_case step angle tap true i =
    let one_is = idle_denominator (added_voltage step tap) angle (added_zero step tap (zero_product step tap i)) in
    ((λ e. absurd cc), (λ h. absurd (omega (arith, ints, one_is, h))))
fault_case step angle tap false i =
    let added = added_voltage step tap in
    let same = outcome_is added angle (numerator_of added angle) (denominator_of added angle) refl refl in
    ((λ e. outcome_faults (numerator_of added angle) (denominator_of added angle) (same ∙ e)), (λ h. sym same ∙ faults_outcome (numerator_of added angle) (denominator_of added angle) h))

denominator_fault : (step angle tap : ℤ) (kind : Regulation) → (phase_shift_of step angle tap kind ≡ Err Denominator) ↔ ((kind ≡ Asym) × (denominator_of (added_voltage step tap) angle ≤ℤ pos 0))
unfolding phase_shift_of regulated_shift_of
denominator_fault step angle tap Asym =
    let f = fault_case step angle tap (is_idle step tap) refl in
    ((λ e. (refl, f.0 e)), (λ h. f.1 h.1))
denominator_fault step angle tap Symm = ((λ e. absurd (no_fault (symmetrical_shift_of (added_voltage step tap)) (is_idle step tap) e)), (λ h. absurd (symmetrical_is_other h.0)))
  where
    no_fault : (shift : ℤ) (idle : Bool) → cond idle (answered (pos 0)) (answered shift) ≡ Err Denominator → ⊥
    no_fault shift true e = fault_not_answered (pos 0) e
    no_fault shift false e = fault_not_answered shift e

    symmetrical_is_other : Symm ≡ Asym → ⊥
    symmetrical_is_other e = cc

-- ---- the two ways through the call

idle_by_step : (a b : ℕ) → a ≡ 0 → ((a == 0) || (b == 0)) ≡ true
idle_by_step a b e = grind (arith, nat_tests)

idle_by_tap : (a b : ℕ) → b ≡ 0 → ((a == 0) || (b == 0)) ≡ true
idle_by_tap a b e = grind (arith, nat_tests)

not_idle : (a b : ℕ) → (a ≡ 0 → ⊥) → (b ≡ 0 → ⊥) → ((a == 0) || (b == 0)) ≡ false
not_idle a b f g = grind (arith, nat_tests)

step_is_zero : (z : ℤ) → SFits w64 z → of_z w64 z ≡ 0 → nat_abs z ≡ 0
step_is_zero z f e = omega (arith, ints, e)

step_not_zero : (z : ℤ) → SFits w64 z → (of_z w64 z ≡ 0 → ⊥) → nat_abs z ≡ 0 → ⊥
step_not_zero (pos n) f n0 e = n0 e
step_not_zero (negsuc n) f n0 e = omega (arith, e)

tap_is_zero : (z : ℤ) → SFits w32 z → of_z w32 z ≡ 0 → nat_abs z ≡ 0
tap_is_zero z f e = omega (arith, ints, e)

tap_not_zero : (z : ℤ) → SFits w32 z → (of_z w32 z ≡ 0 → ⊥) → nat_abs z ≡ 0 → ⊥
tap_not_zero (pos n) f n0 e = n0 e
tap_not_zero (negsuc n) f n0 e = omega (arith, e)

idle_answer : (step angle tap : ℤ) (kind : Regulation) → is_idle step tap ≡ true → answered (pos 0) ≡ phase_shift_of step angle tap kind
unfolding phase_shift_of
idle_answer step angle tap kind e = sym (ap (λ (b : Bool). cond b (answered (pos 0)) (regulated_shift_of (added_voltage step tap) angle kind)) e)

busy_answer : (step angle tap : ℤ) (kind : Regulation) → is_idle step tap ≡ false → regulated_shift_of (added_voltage step tap) angle kind ≡ phase_shift_of step angle tap kind
unfolding phase_shift_of
busy_answer step angle tap kind e = sym (ap (λ (b : Bool). cond b (answered (pos 0)) (regulated_shift_of (added_voltage step tap) angle kind)) e)

pub without_step : (step angle tap : ℤ) (kind : Regulation) → SFits w64 step → of_z w64 step ≡ 0 → answered (pos 0) ≡ phase_shift_of step angle tap kind
without_step step angle tap kind f e = idle_answer step angle tap kind (idle_by_step (nat_abs step) (nat_abs tap) (step_is_zero step f e))

pub without_tap : (step angle tap : ℤ) (kind : Regulation) → SFits w32 tap → of_z w32 tap ≡ 0 → answered (pos 0) ≡ phase_shift_of step angle tap kind
without_tap step angle tap kind f e = idle_answer step angle tap kind (idle_by_tap (nat_abs step) (nat_abs tap) (tap_is_zero tap f e))

pub with_both : (step angle tap : ℤ) (kind : Regulation) → SFits w64 step → SFits w32 tap → (of_z w64 step ≡ 0 → ⊥) → (of_z w32 tap ≡ 0 → ⊥)
    → regulated_shift_of (added_voltage step tap) angle kind ≡ phase_shift_of step angle tap kind
with_both step angle tap kind f g n m =
    busy_answer step angle tap kind (not_idle (nat_abs step) (nat_abs tap) (step_not_zero step f n) (tap_not_zero tap g m))

-- when an answer is the fault
pub fault_exactly : (step angle tap : ℤ) (kind : Regulation) (r : Result ℤ PhaseFault) → r ≡ phase_shift_of step angle tap kind
    → (r ≡ Err Denominator) ↔ ((kind ≡ Asym) × (denominator_of (added_voltage step tap) angle ≤ℤ pos 0))
fault_exactly step angle tap kind r e =
    subst (λ (x : Result ℤ PhaseFault). (x ≡ Err Denominator) ↔ ((kind ≡ Asym) × (denominator_of (added_voltage step tap) angle ≤ℤ pos 0))) (sym e) (denominator_fault step angle tap kind)
