-- The greatest number of watts that a current carries, by one inequality.
use Rattle.std.proofs.Common.{◌≡◌, ℕ, zero, suc, ◌+◌, ◌*◌, ◌^◌, ◌<◌, ◌≤◌, true, false, refl, mul-le-mul, mul-zero, arith}
use Rattle.std.proofs.lemmas.Int.{ints}
use Rattle.std.specs.Prelude.{ℤ, pos, negsuc, ◌≤ℤ◌, ◌<ℤ◌, unsigned_abs}
use Rattle.std.proofs.lemmas.Bool.{leb-true, leb-false}
use Rattle.crac_model.specs.Carried.{power_of, carried_watts}
use Rattle.crac_model.specs.Power.{most_watts, squared_power, is_carried, IsPower, Power}
use Rattle.crac_model.specs.PowerFound.{the_power}

-- ---- the power

squares : (a b : ℕ) → a ≤ b → a * a * 10 ^ 6 ≤ b * b * 10 ^ 6
squares a b le = mul-le-mul (mul-le-mul le le) (omega arith)

not_less : (current voltage f g : ℕ) → IsPower current voltage f → IsPower current voltage g → f < g → ⊥
not_less current voltage f g p q less =
    let above : squared_power current voltage < (f + 1) * (f + 1) * 10 ^ 6 = p.fails (omega (arith, less, q.capped)) in
    let rises : (f + 1) * (f + 1) * 10 ^ 6 ≤ g * g * 10 ^ 6 = squares (f + 1) g (omega (arith, less)) in
    omega (arith, above, rises, q.holds)

-- the power is the one number of which the inequality holds, and fails of the next
pub power_is : (current voltage f : ℕ) → IsPower current voltage f → f ≡ power_of current voltage
unfolding power_of
power_is current voltage f p =
    let q : Power current voltage = the_power current voltage in
    let up : f < q.watts → ⊥ = not_less current voltage f q.watts p q.is in
    let down : q.watts < f → ⊥ = not_less current voltage q.watts f q.is p in
    omega (arith, up, down)

-- ---- the answers of the code

pub nothing_carried : (current voltage : ℕ) → voltage ≡ 0 → IsPower current voltage 0
nothing_carried current voltage e = record {
  capped = omega arith;
  holds = omega arith;
  fails = λ few. rw (e, mul-zero) (omega arith);
}

-- from a product of 10^14 on the cap is reached
pub much_carried : (current voltage : ℕ) → 10 ^ 14 ≤ current * voltage → IsPower current voltage most_watts
much_carried current voltage great = record {
  capped = omega arith;
  holds =
      let square : 10 ^ 14 * 10 ^ 14 ≤ current * voltage * (current * voltage) = mul-le-mul great great in
      omega (arith, square);
  fails = λ few. absurd (omega (arith, few));
}

pub great_current : (current voltage : ℕ) → 10 ^ 14 ≤ current → (voltage ≡ 0 → ⊥) → 10 ^ 14 ≤ current * voltage
great_current current zero great some = absurd (some refl)
great_current current (suc n) great some =
    let least : current * 1 ≤ current * suc n = mul-le-mul (omega arith) (omega arith) in
    omega (arith, great, least)

pub found_carried : (current voltage f : ℕ) → f ≤ most_watts → is_carried (squared_power current voltage) f ≡ true
    → (f < most_watts → is_carried (squared_power current voltage) (f + 1) ≡ false) → IsPower current voltage f
found_carried current voltage f few holds fails = record {
  capped = few;
  holds = leb-true (f * f * 10 ^ 6) (squared_power current voltage) holds;
  fails = λ less. leb-false ((f + 1) * (f + 1) * 10 ^ 6) (squared_power current voltage) (fails less);
}

pub carried_is : (current : ℤ) (voltage f : ℕ) → pos 0 ≤ℤ current → IsPower (unsigned_abs current) voltage f → f ≡ carried_watts current voltage
carried_is (pos current) voltage f positive p = power_is current voltage f p
carried_is (negsuc n) voltage f positive p = absurd (grind (arith, ints))

pub carried_none : (current : ℤ) (voltage : ℕ) → current <ℤ pos 0 → 0 ≡ carried_watts current voltage
carried_none (pos current) voltage negative = absurd (grind (arith, ints))
carried_none (negsuc n) voltage negative = refl
