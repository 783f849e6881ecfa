-- A susceptance times a phase shift, as 128 bits hold it.
use Rattle.std.proofs.Common.{◌≡◌, ◌<◌, ◌^◌, ◌≤ℤ◌, ℕ, ℤ, pos, ◌*ℤ◌, sym, ap, ap₂, ◌∙◌, subst, lit<, arith}
use mir.Syntax.{w64, w128}
use mir.Val.{SFits, to_z, of_z}
use Rattle.std.proofs.lemmas.Int.{ints, to_z-of_z}
use Rattle.whole_laws.specs.Sums.{IsWithin}
use Rattle.whole_laws.specs.SumLaws.{within_times}

abbrev pub held : ℤ → ℤ
held z = to_z w128 (of_z w128 z)

pub held_is : (n : ℕ) (z : ℤ) → n < 2 ^ 127 → IsWithin n z → held z ≡ z
held_is n z l h = to_z-of_z w128 z (omega (arith, ints, h.low, h.high))

pub product_within : (b phi f g : ℤ) → pos 1 ≤ℤ b → b ≤ℤ pos 100_000_000_000 → SFits w64 b → SFits w64 phi → f ≡ to_z w64 (of_z w64 b) → g ≡ to_z w64 (of_z w64 phi)
    → (held (held f *ℤ held g) ≡ b *ℤ phi) × IsWithin 922_337_203_685_477_580_800_000_000_000 (held (held f *ℤ held g))
product_within b phi f g some small b_fits phi_fits ef eg = (value, subst (IsWithin 922_337_203_685_477_580_800_000_000_000) (sym value) all)
  where
    susceptance : IsWithin 100_000_000_000 b
    susceptance = record { low = omega (arith, ints, some); high = small }

    phase : IsWithin 9_223_372_036_854_775_808 phi
    phase = record { low = omega (arith, ints, phi_fits); high = omega (arith, ints, phi_fits) }

    all : IsWithin 922_337_203_685_477_580_800_000_000_000 (b *ℤ phi)
    all = within_times 100_000_000_000 9_223_372_036_854_775_808 b phi susceptance phase

    first : held f ≡ b
    first = ap held (ef ∙ to_z-of_z w64 b b_fits) ∙ held_is 100_000_000_000 b (lit< tt) susceptance

    second : held g ≡ phi
    second = ap held (eg ∙ to_z-of_z w64 phi phi_fits) ∙ held_is 9_223_372_036_854_775_808 phi (lit< tt) phase

    value : held (held f *ℤ held g) ≡ b *ℤ phi
    value = ap held (ap₂ ◌*ℤ◌ first second) ∙ held_is 922_337_203_685_477_580_800_000_000_000 (b *ℤ phi) (lit< tt) all
