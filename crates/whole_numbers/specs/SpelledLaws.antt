-- Laws, which are proved: nobody need believe them.
-- Different numbers have different texts.
use Rattle.std.proofs.Common.{◌≡◌, ℕ, suc, ◌^◌, ◌<◌, ℤ, pos, negsuc, List, ◌∷◌, drop, sym, ap, ◌∙◌, subst, arith, FitsSigned}
use Rattle.std.specs.Fmt.{decimal, signed_decimal}
use Rattle.std.specs.Int.{w64, w128}
use Rattle.std.specs.Str.Parse.{AllDigits, digits_value}
use Rattle.std.proofs.lemmas.Int.{ints}
use Rattle.std.proofs.lemmas.Fmt.{decimal_is_IsNumeral_wide}
use Rattle.whole_laws.specs.Sums.{IsWithin}

pub decimal_same : (m n : ℕ) → m < 10 ^ 64 → n < 10 ^ 64 → decimal m ≡ decimal n → m ≡ n
decimal_same m n p q e = sym (decimal_is_IsNumeral_wide m p).1 ∙ ap (digits_value 10) e ∙ (decimal_is_IsNumeral_wide n q).1

no_sign : (m : ℕ) (bs : List ℕ) → m < 10 ^ 64 → decimal m ≡ 45 ∷ bs → ⊥
no_sign m bs p e = let d = subst (AllDigits 10) e (decimal_is_IsNumeral_wide m p).0.1 in omega (arith, d.0)

pub signed_same : (y z : ℤ) → FitsSigned w128 y → FitsSigned w128 z → signed_decimal y ≡ signed_decimal z → y ≡ z
signed_same (pos m) (pos n) f g e = ap pos (decimal_same m n (omega (arith, f.sfits)) (omega (arith, g.sfits)) e)
signed_same (pos m) (negsuc n) f g e = absurd (no_sign m (decimal (suc n)) (omega (arith, f.sfits)) e)
signed_same (negsuc m) (pos n) f g e = absurd (no_sign n (decimal (suc m)) (omega (arith, g.sfits)) (sym e))
signed_same (negsuc m) (negsuc n) f g e =
    let same : decimal (suc m) ≡ decimal (suc n) = ap (drop 1) e in
    let k = decimal_same (suc m) (suc n) (omega (arith, f.sfits)) (omega (arith, g.sfits)) same in
    ap negsuc (omega arith)

-- numbers in a range of fewer than 63 bits
pub fits_within : (m : ℕ) (z : ℤ) → IsWithin m z → m < 2 ^ 63 → FitsSigned w128 z
fits_within m z h l = omega (arith, ints)

pub fits_natural : (n : ℕ) → n < 2 ^ 32 → FitsSigned w128 (pos n)
fits_natural n h = omega (arith, ints)

pub fits_64 : (m : ℕ) (z : ℤ) → IsWithin m z → m < 2 ^ 63 → FitsSigned w64 z
fits_64 m z h l = omega (arith, ints)

pub within_same : (m : ℕ) (y z : ℤ) → IsWithin m y → IsWithin m z → m < 2 ^ 63 → signed_decimal y ≡ signed_decimal z → y ≡ z
within_same m y z h k l e = signed_same y z (fits_within m y h l) (fits_within m z k l) e
