-- For each current and voltage there is such a number of watts. Nobody need believe how it is found: its type says what it is.
use Rattle.std.proofs.Common.{◌≡◌, ℕ, zero, suc, ◌+◌, ◌*◌, ◌^◌, ◌<◌, ◌≤◌, Bool, true, false, refl, arith}
use Rattle.std.specs.Prelude.{nat_le}
use Rattle.std.proofs.lemmas.Bool.{leb-true, leb-false}
use Rattle.crac_model.specs.Power.{most_watts, squared_power, Power}

-- from a number whose next one fails, down
found_below : (current voltage n : ℕ) → n ≤ most_watts → (n < most_watts → squared_power current voltage < (n + 1) * (n + 1) * 10 ^ 6) → Power current voltage
found_below current voltage zero few fails = record { watts = 0; is = record { capped = few; holds = omega arith; fails = fails } }
found_below current voltage (suc n) few fails = by_test (nat_le (suc n * suc n * 10 ^ 6) (squared_power current voltage)) refl (found_below current voltage n (omega (arith, few)))
  where
    by_test : (b : Bool) → nat_le (suc n * suc n * 10 ^ 6) (squared_power current voltage) ≡ b
        → ((n < most_watts → squared_power current voltage < (n + 1) * (n + 1) * 10 ^ 6) → Power current voltage) → Power current voltage
    by_test true here rest = record {
      watts = suc n;
      is = record { capped = few; holds = leb-true (suc n * suc n * 10 ^ 6) (squared_power current voltage) here; fails = fails };
    }
    by_test false here rest = rest (λ _. let above = leb-false (suc n * suc n * 10 ^ 6) (squared_power current voltage) here in omega (arith, above))

pub the_power : (current voltage : ℕ) → Power current voltage
the_power current voltage = found_below current voltage most_watts (omega arith) (λ less. absurd (omega (arith, less)))
