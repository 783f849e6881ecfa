-- Numbers within bounds in 128 bits.
use Rattle.std.proofs.Common.{◌≡◌, ℕ, ℤ, pos, negsuc, ◌*◌, ◌^◌, ◌<◌, ◌*ℤ◌, sym, subst, arith}
use Rattle.std.specs.Prelude.{int_div}
use mir.Syntax.{w128}
use mir.Val.{SFits, to_z, of_z}
use Rattle.std.proofs.lemmas.Int.{ints, to_z-of_z}
use Rattle.whole_laws.specs.Sums.{IsWithin}
use Rattle.whole_laws.specs.SumLaws.{within_times}

pub within_fits : (m : ℕ) (z : ℤ) → IsWithin m z → m < 2 ^ 127 → SFits w128 z
within_fits m z h small = omega (arith, ints, h.low, h.high)

within_ten_thousand : IsWithin 10000 (pos 10000)
within_ten_thousand = record { low = omega (arith, ints); high = omega (arith, ints) }

-- the voltage that a tap adds
voltage_within : (step tap : ℤ) → IsWithin (10 ^ 17) step → IsWithin 999 tap → IsWithin (10 ^ 24) ((tap *ℤ step) *ℤ pos 10000)
voltage_within step tap s t =
    let h = within_times (999 * 10 ^ 17) 10000 (tap *ℤ step) (pos 10000) (within_times 999 (10 ^ 17) tap step t s) within_ten_thousand in
    record { low = omega (arith, ints, h.low); high = omega (arith, ints, h.high) }

pub voltage_is : (step tap : ℤ) → IsWithin (10 ^ 17) step → IsWithin 999 tap
    → to_z w128 (of_z w128 (to_z w128 (of_z w128 (to_z w128 (of_z w128 tap) *ℤ to_z w128 (of_z w128 step))) *ℤ pos 10000)) ≡ (tap *ℤ step) *ℤ pos 10000
voltage_is step tap s t =
    let f1 : SFits w128 tap = within_fits 999 tap t (omega arith) in
    let f2 : SFits w128 step = within_fits (10 ^ 17) step s (omega arith) in
    let f3 : SFits w128 (tap *ℤ step) = within_fits (999 * 10 ^ 17) (tap *ℤ step) (within_times 999 (10 ^ 17) tap step t s) (omega arith) in
    let f4 : SFits w128 ((tap *ℤ step) *ℤ pos 10000) = within_fits (10 ^ 24) ((tap *ℤ step) *ℤ pos 10000) (voltage_within step tap s t) (omega arith) in
    simp to_z-of_z

pub voltage_bits_within : (step tap : ℤ) → IsWithin (10 ^ 17) step → IsWithin 999 tap
    → IsWithin (10 ^ 24) (to_z w128 (of_z w128 (to_z w128 (of_z w128 (to_z w128 (of_z w128 tap) *ℤ to_z w128 (of_z w128 step))) *ℤ pos 10000)))
voltage_bits_within step tap s t = subst (λ (z : ℤ). IsWithin (10 ^ 24) z) (sym (voltage_is step tap s t)) (voltage_within step tap s t)

-- a part of it
quotient_within : (z : ℤ) → IsWithin (10 ^ 24 * (2 * 10 ^ 12)) z → IsWithin (2 * 10 ^ 24) (int_div z (pos (10 ^ 12)))
quotient_within (pos a) h = record { low = omega (arith, ints, h.high); high = omega (arith, ints, h.high) }
quotient_within (negsuc a) h = record { low = omega (arith, ints, h.low); high = omega (arith, ints, h.low) }

pub part_within : (added factor : ℤ) → IsWithin (10 ^ 24) added → IsWithin (2 * 10 ^ 12) factor
    → IsWithin (2 * 10 ^ 24) (to_z w128 (of_z w128 (int_div (to_z w128 (of_z w128 (to_z w128 (of_z w128 added) *ℤ to_z w128 (of_z w128 factor)))) (pos (10 ^ 12)))))
part_within added factor a f =
    let product = within_times (10 ^ 24) (2 * 10 ^ 12) added factor a f in
    let whole : IsWithin (2 * 10 ^ 24) (int_div (added *ℤ factor) (pos (10 ^ 12))) = quotient_within (added *ℤ factor) product in
    let f1 : SFits w128 added = within_fits (10 ^ 24) added a (omega arith) in
    let f2 : SFits w128 factor = within_fits (2 * 10 ^ 12) factor f (omega arith) in
    let f3 : SFits w128 (added *ℤ factor) = within_fits (10 ^ 24 * (2 * 10 ^ 12)) (added *ℤ factor) product (omega arith) in
    let f4 : SFits w128 (int_div (added *ℤ factor) (pos (10 ^ 12))) = within_fits (2 * 10 ^ 24) (int_div (added *ℤ factor) (pos (10 ^ 12))) whole (omega arith) in
    simp to_z-of_z whole
