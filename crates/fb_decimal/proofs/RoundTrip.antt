-- The text of a number reads back as the number.
use Rattle.std.proofs.Common.{◌≡◌, ℕ, zero, suc, ◌+◌, ◌-◌, ◌*◌, ◌/◌, ◌%◌, ◌^◌, ◌<◌, ◌≤◌, Bool, true, false, cond, ltb, List, [], ◌∷◌, ◌++◌, length, replicate, ℤ, pos, negsuc, neg_ℤ, Ok, Err, inr, refl, sym, ap, ◌∙◌, arith}
use Rattle.std.specs.Prelude.{nat_abs}
use Rattle.std.specs.Fmt.{decimal}
use Rattle.std.specs.Char.{is_ascii_digit, digit_value}
use Rattle.std.specs.Str.Parse.{digits_value, AllDigits}
use Rattle.std.proofs.lemmas.Bool.{ltb-true}
use Rattle.std.proofs.lemmas.Bool.Decides.{nat_tests}
use Rattle.std.proofs.lemmas.List.{append-nil, length-append}
use Rattle.std.proofs.lemmas.Fmt.{decimal_is_IsNumeral_wide, length-decimal-le_wide}
use Rattle.fb_decimal.specs.Spelling.{AreDigits, IsSign, IsSpelling}
use Rattle.fb_decimal.specs.Meaning.{magnitude_of, greatest, signed}
use Rattle.fb_decimal.specs.Printing.{padded_digits, unsigned_text, decimal_text}
use Rattle.fb_decimal.specs.Reading.{decimal_of}
use Rattle.fb_decimal.specs.declared.Decimal.{Decimal}
use Rattle.fb_decimal.specs.declared.DecimalFault.TheVariants.{TooLarge}
use Rattle.fb_decimal.proofs.Digits.{digits_value-append}
use Rattle.fb_decimal.proofs.Law.{reads_spelling}

digit_is_ascii : (c : ℕ) → digit_value c < 10 → is_ascii_digit c ≡ true
digit_is_ascii c h = grind (arith, nat_tests)

AreDigits-all : (ds : List ℕ) → AllDigits 10 ds → AreDigits ds
AreDigits-all [] h = tt
AreDigits-all (d ∷ ds) h = (digit_is_ascii d h.0, AreDigits-all ds h.1)

AreDigits-append : (xs ys : List ℕ) → AreDigits xs → AreDigits ys → AreDigits (xs ++ ys)
AreDigits-append [] ys h k = k
AreDigits-append (x ∷ xs) ys h k = (h.0, AreDigits-append xs ys h.1 k)

zeros_are_digits : (k : ℕ) → AreDigits (replicate k 48)
zeros_are_digits zero = tt
zeros_are_digits (suc k) = (refl, zeros_are_digits k)

zeros_value : (k : ℕ) → digits_value 10 (replicate k 48) ≡ 0
zeros_value zero = refl
zeros_value (suc k) = zeros_value k

length-zeros : (k : ℕ) → length (replicate {A = ℕ} k 48) ≡ k
length-zeros zero = refl
length-zeros (suc k) = ap suc (length-zeros k)

decimal_digits : (n : ℕ) → n < 10 ^ 64 → AreDigits (decimal n)
decimal_digits n h = AreDigits-all (decimal n) (decimal_is_IsNumeral_wide n h).0.1

-- ---- the six digits

padded_are_digits : (n : ℕ) → n < 10 ^ 6 → AreDigits (padded_digits 6 n)
padded_are_digits n h = AreDigits-append (replicate (6 - length (decimal n)) 48) (decimal n) (zeros_are_digits (6 - length (decimal n))) (decimal_digits n (omega arith))

length-padded : (n : ℕ) → n < 10 ^ 6 → length (padded_digits 6 n) ≡ 6
length-padded n h =
    let fits : length (decimal n) ≤ 6 = length-decimal-le_wide 6 n (omega arith) (omega arith) (omega arith) in
    omega (arith, length-append (replicate (6 - length (decimal n)) 48) (decimal n), length-zeros (6 - length (decimal n)))

padded_value : (n : ℕ) → n < 10 ^ 6 → digits_value 10 (padded_digits 6 n) ≡ n
padded_value n h =
    digits_value-append (replicate (6 - length (decimal n)) 48) (decimal n)
    ∙ ap (λ (m : ℕ). m * 10 ^ length (decimal n) + digits_value 10 (decimal n)) (zeros_value (6 - length (decimal n)))
    ∙ omega (arith, (decimal_is_IsNumeral_wide n (omega arith)).1)

-- ---- the text is a spelling

unsigned_spelling : (sign : List ℕ) (n : ℕ) → IsSign sign → n ≤ greatest → IsSpelling (sign ++ unsigned_text n)
unsigned_spelling sign n s h = record {
  sign = sign;
  whole = decimal (n / 10 ^ 6);
  fraction = 46 ∷ padded_digits 6 (n % 10 ^ 6);
  exponent = [];
  is_sign = s;
  are_digits = decimal_digits (n / 10 ^ 6) (omega arith);
  is_fraction = (refl, padded_are_digits (n % 10 ^ 6) (omega arith));
  some_digit = inr (omega (arith, length-padded (n % 10 ^ 6) (omega arith)));
  is_exponent = tt;
  parts = ap (λ (ds : List ℕ). sign ++ (decimal (n / 10 ^ 6) ++ 46 ∷ ds)) (sym (append-nil (padded_digits 6 (n % 10 ^ 6))));
}

joined_value : (n : ℕ) → n ≤ greatest → digits_value 10 (decimal (n / 10 ^ 6) ++ padded_digits 6 (n % 10 ^ 6)) ≡ n
joined_value n h =
    digits_value-append (decimal (n / 10 ^ 6)) (padded_digits 6 (n % 10 ^ 6))
    ∙ ap (λ (k : ℕ). digits_value 10 (decimal (n / 10 ^ 6)) * 10 ^ k + digits_value 10 (padded_digits 6 (n % 10 ^ 6))) (length-padded (n % 10 ^ 6) (omega arith))
    ∙ omega (arith, (decimal_is_IsNumeral_wide (n / 10 ^ 6) (omega arith)).1, padded_value (n % 10 ^ 6) (omega arith))

unsigned_magnitude : (sign : List ℕ) (n : ℕ) (s : IsSign sign) (h : n ≤ greatest) → magnitude_of (unsigned_spelling sign n s h) ≡ n
unfolding magnitude_of unsigned_spelling
unsigned_magnitude sign n s h =
    ap (λ (m : ℕ). 10 ^ 6 * (m * 1) / (10 ^ length (padded_digits 6 (n % 10 ^ 6)) * 1)) (joined_value n h)
    ∙ ap (λ (k : ℕ). 10 ^ 6 * (n * 1) / (10 ^ k * 1)) (length-padded (n % 10 ^ 6) (omega arith))
    ∙ omega arith

small_enough : (m n : ℕ) (sign : List ℕ) (big : Bool) → ltb greatest m ≡ big → m ≡ n → n ≤ greatest → cond big (Err TooLarge) (Ok (let d : Decimal = record { millionths = signed sign m } in d)) ≡ Ok (record { millionths = signed sign n })
small_enough m n sign true e f h = absurd (omega (arith, ltb-true greatest m e))
small_enough m n sign false e f h = ap (λ (k : ℕ). Ok (record { millionths = signed sign k })) f

unsigned_reads : (sign : List ℕ) (n : ℕ) → IsSign sign → n ≤ greatest → decimal_of (sign ++ unsigned_text n) ≡ Ok (record { millionths = signed sign n })
unfolding unsigned_spelling
unsigned_reads sign n s h =
    let spelling = unsigned_spelling sign n s h in
    reads_spelling (sign ++ unsigned_text n) spelling
    ∙ small_enough (magnitude_of spelling) n sign (ltb greatest (magnitude_of spelling)) refl (unsigned_magnitude sign n s h) h

pub reads_back : (z : ℤ) → nat_abs z ≤ greatest → decimal_of (decimal_text z) ≡ Ok (record { millionths = z })
unfolding decimal_text
reads_back (pos n) h = unsigned_reads [] n tt h
reads_back (negsuc n) h = unsigned_reads (45 ∷ []) (n + 1) refl (omega arith) ∙ ap (λ (v : ℤ). Ok (record { millionths = v })) (minus_one n)
  where
    one_more : (n : ℕ) → n + 1 ≡ suc n
    one_more n = omega arith

    minus_one : (n : ℕ) → neg_ℤ (pos (n + 1)) ≡ negsuc n
    minus_one n = ap (λ (k : ℕ). neg_ℤ (pos k)) (one_more n)
