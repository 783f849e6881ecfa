-- The text of a whole number of 128 bits, and `parse`.
use Rattle.std.proofs.Common.{◌≡◌, ℕ, zero, suc, lit<, ◌+◌, ◌*◌, ◌/◌, ◌%◌, ◌^◌, ◌<◌, ◌≤◌, ℤ, pos, negsuc, neg_ℤ, true, List, [], ◌∷◌, ◌++◌, length, get_or, refl, sym, ap, ◌∙◌, subst, arith, FitsSigned, append-nil, append_assoc, length-append, inl, inr}
use Rattle.std.specs.Prelude.{Result, Ok, Err, ◌==◌}
use Rattle.std.specs.Result.{OkIff}
use Rattle.std.proofs.lemmas.Bool.Decides.{nat_tests}
use Rattle.std.proofs.lemmas.Bool.{cases_Bool}
use Rattle.std.specs.Fmt.{decimal, signed_decimal}
use Rattle.std.specs.Int.{w128}
use Rattle.std.specs.Char.{digit_value}
use Rattle.std.specs.Str.{IsAscii, IsUtf8}
use Rattle.std.specs.Str.Parse.{ParsesSigned, AllDigits, digits_value, digits_value_after}
use Rattle.std.proofs.lemmas.Int.{ints}
use Rattle.std.proofs.lemmas.Fmt.{decimal_is_IsNumeral_wide, IsAscii-decimal_wide, decimal_digit, decimal_step_wide, decimal_by_steps_wide}
use Rattle.std.proofs.lemmas.Str.{IsUtf8-from_ascii, digit_value_digit}
use Rattle.std.proofs.lemmas.Str.Parse.{numerals_by_value, tells_digits, parse_signed_digits, parse_signed_minus, parse_signed_plain, digit_from_value}
use Rattle.std.proofs.lemmas.Result.{Ok-from_Ok_iff}
use Rattle.whole_numbers.specs.Plain.{is_plain}

-- digits with no leading zero, or just `0`, are the text of their value, up to 10 ^ 64
le_value_after : (n : ℕ) (ds : List ℕ) → n ≤ digits_value_after 10 n ds
le_value_after n [] = omega arith
le_value_after n (c ∷ cs) = omega (arith, le_value_after (n * 10 + digit_value c) cs)

decimal_value_after : (n : ℕ) (ds : List ℕ) → 0 < n → AllDigits 10 ds → digits_value_after 10 n ds < 10 ^ 64 → decimal (digits_value_after 10 n ds) ≡ decimal n ++ ds
decimal_value_after n [] some d small = sym (append-nil (decimal n))
decimal_value_after n (c ∷ cs) some d small =
    let m : ℕ = n * 10 + digit_value c in
    let k = digit_value_digit c (digit_from_value c d.0) in
    let front : m / 10 ≡ n = omega (arith, d.0) in
    let end : 48 + m % 10 ≡ c = omega (arith, d.0) in
    decimal_value_after m cs (omega arith) d.1 small
    ∙ ap (λ x. x ++ cs) (decimal_step_wide m (omega arith) (omega (arith, le_value_after m cs)) ∙ (λ i. decimal (front i) ++ (end i ∷ [])))
    ∙ append_assoc (decimal n) (c ∷ []) cs

pub decimal_value_wide : (ds : List ℕ) → AllDigits 10 ds → 0 < length ds → (get_or ds 0 0 ≡ 48 → length ds ≡ 1) → digits_value 10 ds < 10 ^ 64 → decimal (digits_value 10 ds) ≡ ds
decimal_value_wide [] d some lead small = absurd (omega arith)
decimal_value_wide (c ∷ []) d some lead small =
    let k = digit_value_digit c (digit_from_value c d.0) in
    decimal_digit (0 * 10 + digit_value c) (omega (arith, d.0)) ∙ ap (λ x. x ∷ []) (omega arith)
decimal_value_wide (c ∷ e ∷ cs) d some lead small =
    let k = digit_value_digit c (digit_from_value c d.0) in
    let no : c ≡ 48 → ⊥ = λ z. omega (arith, lead z) in
    let is : 48 + (0 * 10 + digit_value c) ≡ c = omega arith in
    decimal_value_after (0 * 10 + digit_value c) (e ∷ cs) (omega arith) d.1 small
    ∙ ap (λ x. x ++ (e ∷ cs)) (decimal_digit (0 * 10 + digit_value c) (omega (arith, d.0)) ∙ ap (λ x. x ∷ []) is)

-- the text of a number reads as the number
pub parse_wide : {E : Type 0} (z : ℤ) (bs : List ℕ) (r : Result ℤ E) → FitsSigned w128 z → bs ≡ signed_decimal z → ParsesSigned w128 10 bs r → r ≡ Ok z
parse_wide (pos n) bs r fits is h =
    let k = decimal_is_IsNumeral_wide n (omega (arith, fits.sfits)) in
    let read = parse_signed_digits (numerals_by_value _ tells_digits) w128 (decimal n) r (subst (λ l. ParsesSigned w128 10 l r) is h) k.0.1 in
    Ok-from_Ok_iff r _ _ read (k.0.0, omega (arith, k.1, fits.sfits)) ∙ ap (λ m. Ok (pos m)) k.1
parse_wide (negsuc n) bs r fits is h =
    let k = decimal_is_IsNumeral_wide (suc n) (omega (arith, fits.sfits)) in
    let read = parse_signed_minus (numerals_by_value _ tells_digits) w128 (45 ∷ decimal (suc n)) r (subst (λ l. ParsesSigned w128 10 l r) is h) refl in
    Ok-from_Ok_iff r _ _ read (k.0.1, k.0.0, omega (arith, k.1, fits.sfits)) ∙ ap (λ m. Ok (neg_ℤ (pos m))) k.1

ascii_cons : (b : ℕ) (bs : List ℕ) → b < 128 → IsAscii bs → IsAscii (b ∷ bs)
ascii_cons b bs h k zero = h
ascii_cons b bs h k (suc i) = k i

pub utf8 : (z : ℤ) → FitsSigned w128 z → IsUtf8 (signed_decimal z)
utf8 (pos n) fits = IsUtf8-from_ascii (decimal n) (IsAscii-decimal_wide n (omega (arith, fits.sfits)))
utf8 (negsuc n) fits =
    let digits = IsAscii-decimal_wide (suc n) (omega (arith, fits.sfits)) in
    IsUtf8-from_ascii (45 ∷ decimal (suc n)) (ascii_cons 45 (decimal (suc n)) (lit< tt) digits)

-- the text of a number is plain
abbrev LeadsHigh : ℕ → List ℕ → Type 0
LeadsHigh n ds = 0 < n → (0 < length ds) × (get_or ds 0 0 ≡ 48 → ⊥)

first_append : (ds : List ℕ) (d : ℕ) → 0 < length ds → get_or (ds ++ d ∷ []) 0 0 ≡ get_or ds 0 0
first_append [] d l = absurd (omega arith)
first_append (x ∷ ds) d l = refl

lead_one : (n : ℕ) → n < 10 → LeadsHigh n ((48 + n) ∷ [])
lead_one n l h = (lit< tt, λ e. omega arith)

lead_more : (n : ℕ) (ds : List ℕ) → 10 ≤ n → LeadsHigh (n / 10) ds → LeadsHigh n (ds ++ ((48 + n % 10) ∷ []))
lead_more n ds l h p =
    let q = h (omega arith) in
    (omega (arith, length-append ds ((48 + n % 10) ∷ []), q.0), λ e. q.1 (sym (first_append ds (48 + n % 10) q.0) ∙ e))

lead : (m : ℕ) → m < 10 ^ 64 → LeadsHigh m (decimal m)
lead m small = decimal_by_steps_wide LeadsHigh lead_one lead_more m small

plain_minus : (ds : List ℕ) → (0 < length ds) × (get_or ds 0 0 ≡ 48 → ⊥) → is_plain (45 ∷ ds) ≡ true
plain_minus [] h = absurd (omega (arith, h.0))
plain_minus (c ∷ cs) h = let k = h.1 in grind (arith, nat_tests)

plain_digits : (ds : List ℕ) → AllDigits 10 ds → 0 < length ds → (get_or ds 0 0 ≡ 48 → length ds ≡ 1) → is_plain ds ≡ true
plain_digits [] d some l = absurd (omega arith)
plain_digits (c ∷ cs) d some l = let k = digit_from_value c d.0 in grind (arith, nat_tests)

pub plain : (z : ℤ) → FitsSigned w128 z → is_plain (signed_decimal z) ≡ true
plain (pos zero) fits = rw (decimal_digit 0 (lit< tt)) refl
plain (pos (suc n)) fits =
    let small : suc n < 10 ^ 64 = omega (arith, fits.sfits) in
    let k = decimal_is_IsNumeral_wide (suc n) small in
    plain_digits (decimal (suc n)) k.0.1 k.0.0 (λ e. absurd ((lead (suc n) small (omega arith)).1 e))
plain (negsuc n) fits =
    let small : suc n < 10 ^ 64 = omega (arith, fits.sfits) in
    plain_minus (decimal (suc n)) (lead (suc n) small (omega arith))

abbrev OkOf : (X E : Type 0) → X → Result X E
OkOf X E x = Ok x

ok_same : {X E : Type 0} (x z : X) → OkOf X E x ≡ OkOf X E z → x ≡ z
ok_same x z e = cc

zero_alone : (c : ℕ) (cs : List ℕ) → is_plain (c ∷ cs) ≡ true → c ≡ 48 → length (c ∷ cs) ≡ 1
zero_alone c cs p l = grind (arith, nat_tests)

not_zero : (c : ℕ) (cs : List ℕ) → is_plain (45 ∷ c ∷ cs) ≡ true → c ≡ 48 → ⊥
not_zero c cs p l = grind (arith, nat_tests)

no_plus : (c : ℕ) (cs : List ℕ) → is_plain (c ∷ cs) ≡ true → c ≡ 43 → ⊥
no_plus c cs p l = grind (arith, nat_tests)

abbrev IsSpelled : ℤ → List ℕ → Type 0
IsSpelled z bs = FitsSigned w128 z × (bs ≡ signed_decimal z)

minus_value : (n : ℕ) (cs : List ℕ) → decimal n ≡ cs → (get_or cs 0 0 ≡ 48 → ⊥) → n ≤ 2 ^ 127 → IsSpelled (neg_ℤ (pos n)) (45 ∷ cs)
minus_value zero cs e l small = absurd (l (ap (λ ds. get_or ds 0 0) (sym e ∙ decimal_digit 0 (lit< tt))))
minus_value (suc n) cs e l small = (omega (arith, ints), ap (λ ds. 45 ∷ ds) (sym e))

minus_spelled : {E : Type 0} (z : ℤ) (cs : List ℕ) (r : Result ℤ E) → is_plain (45 ∷ cs) ≡ true → OkIff r (AllDigits 10 cs × (0 < length cs) × (digits_value 10 cs ≤ 2 ^ 127)) (neg_ℤ (pos (digits_value 10 cs))) → r ≡ Ok z → IsSpelled z (45 ∷ cs)
minus_spelled z [] r p h e = cc
minus_spelled z (c ∷ cs) (Err x) p h e = cc
minus_spelled z (c ∷ cs) (Ok x) p h e =
    let no : c ≡ 48 → ⊥ = not_zero c cs p in
    let back = decimal_value_wide (c ∷ cs) h.0.0 h.0.1 (λ l. absurd (no l)) (omega (arith, h.0.2)) in
    let is = minus_value (digits_value 10 (c ∷ cs)) (c ∷ cs) back no h.0.2 in
    let same : neg_ℤ (pos (digits_value 10 (c ∷ cs))) ≡ z = sym h.1 ∙ ok_same x z e in
    subst (λ t. IsSpelled t (45 ∷ c ∷ cs)) same is

plain_spelled : {E : Type 0} (z : ℤ) (c : ℕ) (cs : List ℕ) (r : Result ℤ E) → (c ≡ 45 → ⊥) → is_plain (c ∷ cs) ≡ true → OkIff r (AllDigits 10 (c ∷ cs) × (0 < length (c ∷ cs)) × (digits_value 10 (c ∷ cs) < 2 ^ 127)) (pos (digits_value 10 (c ∷ cs))) → r ≡ Ok z → IsSpelled z (c ∷ cs)
plain_spelled z c cs (Err x) n p h e = cc
plain_spelled z c cs (Ok x) n p h e =
    let back = decimal_value_wide (c ∷ cs) h.0.0 h.0.1 (λ l. zero_alone c cs p l) (omega (arith, h.0.2)) in
    let same : pos (digits_value 10 (c ∷ cs)) ≡ z = sym h.1 ∙ ok_same x z e in
    subst (λ t. IsSpelled t (c ∷ cs)) same (omega (arith, ints, h.0.2), sym back)

spelled_minus : {E : Type 0} (z : ℤ) (c : ℕ) (cs : List ℕ) (r : Result ℤ E) → c ≡ 45 → is_plain (c ∷ cs) ≡ true → ParsesSigned w128 10 (c ∷ cs) r → r ≡ Ok z → IsSpelled z (c ∷ cs)
spelled_minus z c cs r at p h e =
    let p2 : is_plain (45 ∷ cs) ≡ true = subst (λ t. is_plain (t ∷ cs) ≡ true) at p in
    let h2 : ParsesSigned w128 10 (45 ∷ cs) r = subst (λ t. ParsesSigned w128 10 (t ∷ cs) r) at h in
    subst (λ t. IsSpelled z (t ∷ cs)) (sym at) (minus_spelled z cs r p2 (parse_signed_minus (numerals_by_value _ tells_digits) w128 (45 ∷ cs) r h2 refl) e)

-- what reads as a number and is plain is its text
pub spelled : {E : Type 0} (z : ℤ) (bs : List ℕ) (r : Result ℤ E) → is_plain bs ≡ true → ParsesSigned w128 10 bs r → r ≡ Ok z → FitsSigned w128 z × (bs ≡ signed_decimal z)
spelled z [] r p h e = cc
spelled z (c ∷ cs) r p h e = elim (cases_Bool (c == 45)) [
  | inl minus ↦ let at : c ≡ 45 = grind (arith, nat_tests) in spelled_minus z c cs r at p h e
  | inr other ↦ let other2 : c ≡ 45 → ⊥ = grind (arith, nat_tests) in plain_spelled z c cs r other2 p (parse_signed_plain (numerals_by_value _ tells_digits) w128 (c ∷ cs) r h (no_plus c cs p) other2) e
]
