-- What the pieces of a text are where it is a spelling.
use Rattle.std.proofs.Common.{◌≡◌, ℕ, zero, suc, ◌+◌, ◌*◌, ◌/◌, ◌^◌, ◌<◌, Bool, true, false, cond, List, [], ◌∷◌, ◌++◌, length, take, drop, inl, inr, pos, neg_ℤ, refl, sym, ap, ◌∙◌, arith}
use Rattle.std.specs.Prelude.{◌==◌}
use Rattle.std.specs.List.{AllByRecursion, position_or_len, before_first, after_first}
use Rattle.std.specs.Char.{is_ascii_digit}
use Rattle.std.specs.Str.Parse.{digits_value}
use Rattle.std.proofs.Math.Seq.{take-append_seam, drop-append-add}
use Rattle.std.proofs.lemmas.Nat.{pow-add}
use Rattle.std.proofs.lemmas.Bool.Decides.{nat_tests}
use Rattle.std.proofs.lemmas.List.{append_assoc}
use Rattle.std.proofs.lemmas.List.Elements.{filter-append}
use Rattle.fb_decimal.specs.Spelling.{is_sign, is_point, is_mark, AreDigits, IsSign, IsFraction, IsExponent, IsSpelling}
use Rattle.fb_decimal.specs.Meaning.{is_minus, signed, number_of, places_of, power_of, raised, lowered, magnitude_of, value_of}
use Rattle.fb_decimal.specs.Pieces.{digits, number, mantissa, exponent, begins_with_minus, places, scaled, magnitude_in, value_in}

-- ---- the first character that passes

abbrev pub NonePass : (ℕ → Bool) → List ℕ → Type 0
NonePass p xs = AllByRecursion (λ c. p c ≡ false) xs

-- nothing, or what begins with a character that passes
abbrev pub Stops : (ℕ → Bool) → List ℕ → Type 0
Stops p [] = Unit {0}
Stops p (c ∷ cs) = p c ≡ true

NonePass-append : (p : ℕ → Bool) (xs ys : List ℕ) → NonePass p xs → NonePass p ys → NonePass p (xs ++ ys)
NonePass-append p [] ys h k = k
NonePass-append p (x ∷ xs) ys h k = (h.0, NonePass-append p xs ys h.1 k)

first_stop : (p : ℕ → Bool) (front back : List ℕ) → NonePass p front → Stops p back → position_or_len p (front ++ back) ≡ length front
first_stop p [] [] n s = refl
first_stop p [] (c ∷ cs) n s = rw s refl
first_stop p (c ∷ cs) back n s = rw n.0 (omega (arith, first_stop p cs back n.1 s))

before_stop : (p : ℕ → Bool) (front back : List ℕ) → NonePass p front → Stops p back → before_first p (front ++ back) ≡ front
before_stop p front back n s = ap (λ (k : ℕ). take k (front ++ back)) (first_stop p front back n s) ∙ take-append_seam front back

after_stop : (p : ℕ → Bool) (front back : List ℕ) → NonePass p front → Stops p back → after_first p (front ++ back) ≡ drop 1 back
after_stop p front back n s = ap (λ (k : ℕ). drop (k + 1) (front ++ back)) (first_stop p front back n s) ∙ drop-append-add front back 1

-- ---- the pieces

digit_passes : (c : ℕ) → is_ascii_digit c ≡ true → (is_mark c ≡ false) × (is_point c ≡ false) × ((c == 45) ≡ false)
digit_passes c e = grind (arith, nat_tests)

sign_passes : (c : ℕ) → is_sign c ≡ true → (is_mark c ≡ false) × (is_point c ≡ false) × (is_ascii_digit c ≡ false)
sign_passes c e = grind (arith, nat_tests)

point_passes : (c : ℕ) → is_point c ≡ true → (is_mark c ≡ false) × (is_ascii_digit c ≡ false) × ((c == 45) ≡ false)
point_passes c e = grind (arith, nat_tests)

digits_no_mark : (ds : List ℕ) → AreDigits ds → NonePass is_mark ds
digits_no_mark [] h = tt
digits_no_mark (d ∷ ds) h = ((digit_passes d h.0).0, digits_no_mark ds h.1)

digits_no_point : (ds : List ℕ) → AreDigits ds → NonePass is_point ds
digits_no_point [] h = tt
digits_no_point (d ∷ ds) h = ((digit_passes d h.0).1, digits_no_point ds h.1)

pub digits_all : (ds : List ℕ) → AreDigits ds → digits ds ≡ ds
digits_all [] h = refl
digits_all (d ∷ ds) h = ap (λ (b : Bool). cond b (d ∷ digits ds) (digits ds)) h.0 ∙ ap (λ (xs : List ℕ). d ∷ xs) (digits_all ds h.1)

sign_no_mark : (sign : List ℕ) → IsSign sign → NonePass is_mark sign
sign_no_mark [] h = tt
sign_no_mark (c ∷ []) h = ((sign_passes c h).0, tt)
sign_no_mark (c ∷ d ∷ cs) h = absurd h

sign_no_point : (sign : List ℕ) → IsSign sign → NonePass is_point sign
sign_no_point [] h = tt
sign_no_point (c ∷ []) h = ((sign_passes c h).1, tt)
sign_no_point (c ∷ d ∷ cs) h = absurd h

digits_sign : (sign : List ℕ) → IsSign sign → digits sign ≡ []
digits_sign [] h = refl
digits_sign (c ∷ []) h = ap (λ (b : Bool). cond b (c ∷ []) []) (sign_passes c h).2
digits_sign (c ∷ d ∷ cs) h = absurd h

fraction_no_mark : (fraction : List ℕ) → IsFraction fraction → NonePass is_mark fraction
fraction_no_mark [] h = tt
fraction_no_mark (c ∷ cs) h = ((point_passes c h.0).0, digits_no_mark cs h.1)

fraction_stops : (fraction : List ℕ) → IsFraction fraction → Stops is_point fraction
fraction_stops [] h = tt
fraction_stops (c ∷ cs) h = h.0

digits_fraction : (fraction : List ℕ) → IsFraction fraction → digits fraction ≡ drop 1 fraction
digits_fraction [] h = refl
digits_fraction (c ∷ cs) h = ap (λ (b : Bool). cond b (c ∷ digits cs) (digits cs)) (point_passes c h.0).1 ∙ digits_all cs h.1

digits_behind_point : (fraction : List ℕ) → IsFraction fraction → digits (drop 1 fraction) ≡ drop 1 fraction
digits_behind_point [] h = refl
digits_behind_point (c ∷ cs) h = digits_all cs h.1

exponent_stops : (x : List ℕ) → IsExponent x → Stops is_mark x
exponent_stops [] h = tt
exponent_stops (c ∷ cs) h = h.is_mark

-- ---- the sign in front

sign_first : (sign : List ℕ) (c : ℕ) (cs : List ℕ) → IsSign sign → (c == 45) ≡ false → begins_with_minus (sign ++ c ∷ cs) ≡ is_minus sign
sign_first [] c cs h e = e
sign_first (s ∷ []) c cs h e = refl
sign_first (s ∷ t ∷ ss) c cs h e = absurd h

-- ---- the power

pub digits_signed : (sign ds : List ℕ) → IsSign sign → AreDigits ds → digits (sign ++ ds) ≡ ds
digits_signed sign ds s h = filter-append is_ascii_digit sign ds ∙ ap (λ (xs : List ℕ). xs ++ digits ds) (digits_sign sign s) ∙ digits_all ds h

sign_before_digits : (sign ds : List ℕ) → IsSign sign → AreDigits ds → 0 < length ds → begins_with_minus (sign ++ ds) ≡ is_minus sign
sign_before_digits sign [] s h some = absurd (omega arith)
sign_before_digits sign (d ∷ ds) s h some = sign_first sign d ds s (digit_passes d h.0).2

raised_up : (n t : ℕ) → n * (10 ^ 6 * t) ≡ 10 ^ 6 * (n * t)
raised_up n t = omega arith

quotient_is : (a b c d : ℕ) → a ≡ c → b ≡ d → a / b ≡ c / d
quotient_is a b c d e f = ap (λ (m : ℕ). m / b) e ∙ ap (λ (m : ℕ). c / m) f

scaled_power : (n p : ℕ) (negative : Bool) (k : ℕ) → scaled n p negative k ≡ 10 ^ 6 * (n * raised (cond negative (neg_ℤ (pos k)) (pos k))) / (10 ^ p * lowered (cond negative (neg_ℤ (pos k)) (pos k)))
scaled_power n p false k =
    quotient_is (n * 10 ^ (6 + k)) (10 ^ p) (10 ^ 6 * (n * 10 ^ k)) (10 ^ p * 1) (ap (λ (t : ℕ). n * t) (pow-add 10 6 k) ∙ raised_up n (10 ^ k)) (omega arith)
scaled_power n p true zero =
    quotient_is (n * 10 ^ 6) (10 ^ (p + 0)) (10 ^ 6 * (n * 1)) (10 ^ p * 1) (omega arith) (pow-add 10 p 0)
scaled_power n p true (suc k) =
    quotient_is (n * 10 ^ 6) (10 ^ (p + suc k)) (10 ^ 6 * (n * 1)) (10 ^ p * 10 ^ (k + 1)) (omega arith) (pow-add 10 p (suc k) ∙ ap (λ (j : ℕ). 10 ^ p * 10 ^ j) (add_one k))
  where
    add_one : (k : ℕ) → suc k ≡ k + 1
    add_one k = omega arith

scaled_exponent : (n p : ℕ) (x : List ℕ) (h : IsExponent x) → scaled n p (begins_with_minus (drop 1 x)) (number (drop 1 x)) ≡ 10 ^ 6 * (n * raised (power_of x h)) / (10 ^ p * lowered (power_of x h))
scaled_exponent n p [] h = scaled_power n p false 0
scaled_exponent n p (c ∷ cs) h =
    let minus : begins_with_minus cs ≡ is_minus h.sign = ap begins_with_minus h.parts ∙ sign_before_digits h.sign h.digits h.is_sign h.are_digits h.some_digit in
    let power : number cs ≡ digits_value 10 h.digits = ap number h.parts ∙ ap (digits_value 10) (digits_signed h.sign h.digits h.is_sign h.are_digits) in
    ap (λ (b : Bool). scaled n p b (number cs)) minus ∙ ap (scaled n p (is_minus h.sign)) power ∙ scaled_power n p (is_minus h.sign) (digits_value 10 h.digits)

-- ---- the whole

record AreParts (text : List ℕ) (s : IsSpelling text) : Type 0 where
  front : mantissa text ≡ s.sign ++ (s.whole ++ s.fraction)
  back : exponent text ≡ drop 1 s.exponent
  is_front : text ≡ (s.sign ++ (s.whole ++ s.fraction)) ++ s.exponent

parts_of : (text : List ℕ) (s : IsSpelling text) → AreParts text s
parts_of text s =
    let split : text ≡ (s.sign ++ (s.whole ++ s.fraction)) ++ s.exponent =
    s.parts ∙ ap (λ (xs : List ℕ). s.sign ++ xs) (sym (append_assoc s.whole s.fraction s.exponent)) ∙ sym (append_assoc s.sign (s.whole ++ s.fraction) s.exponent) in
    let none = NonePass-append is_mark s.sign (s.whole ++ s.fraction) (sign_no_mark s.sign s.is_sign)
    (NonePass-append is_mark s.whole s.fraction (digits_no_mark s.whole s.are_digits) (fraction_no_mark s.fraction s.is_fraction)) in
    record {
      front = ap mantissa split ∙ before_stop is_mark (s.sign ++ (s.whole ++ s.fraction)) s.exponent none (exponent_stops s.exponent s.is_exponent);
      back = ap exponent split ∙ after_stop is_mark (s.sign ++ (s.whole ++ s.fraction)) s.exponent none (exponent_stops s.exponent s.is_exponent);
      is_front = split;
    }

number_front : (text : List ℕ) (s : IsSpelling text) → number (s.sign ++ (s.whole ++ s.fraction)) ≡ number_of s
number_front text s =
    ap (digits_value 10) (filter-append is_ascii_digit s.sign (s.whole ++ s.fraction) ∙ ap (λ (xs : List ℕ). xs ++ digits (s.whole ++ s.fraction)) (digits_sign s.sign s.is_sign)
    ∙ filter-append is_ascii_digit s.whole s.fraction ∙ ap (λ (xs : List ℕ). xs ++ digits s.fraction) (digits_all s.whole s.are_digits)
    ∙ ap (λ (xs : List ℕ). s.whole ++ xs) (digits_fraction s.fraction s.is_fraction))

places_front : (text : List ℕ) (s : IsSpelling text) → places (s.sign ++ (s.whole ++ s.fraction)) ≡ places_of s
places_front text s =
    let none = NonePass-append is_point s.sign s.whole (sign_no_point s.sign s.is_sign) (digits_no_point s.whole s.are_digits) in
    ap places (sym (append_assoc s.sign s.whole s.fraction))
    ∙ ap (λ (xs : List ℕ). length (digits xs)) (after_stop is_point (s.sign ++ s.whole) s.fraction none (fraction_stops s.fraction s.is_fraction))
    ∙ ap length (digits_behind_point s.fraction s.is_fraction)

pub magnitude_spelled : (text : List ℕ) (s : IsSpelling text) → magnitude_in text ≡ magnitude_of s
unfolding magnitude_in magnitude_of
magnitude_spelled text s =
    let p = parts_of text s in
    ap (λ (xs : List ℕ). scaled (number xs) (places xs) (begins_with_minus (exponent text)) (number (exponent text))) p.front
    ∙ ap (λ (xs : List ℕ). scaled (number (s.sign ++ (s.whole ++ s.fraction))) (places (s.sign ++ (s.whole ++ s.fraction))) (begins_with_minus xs) (number xs)) p.back
    ∙ ap (λ (n : ℕ). scaled n (places (s.sign ++ (s.whole ++ s.fraction))) (begins_with_minus (drop 1 s.exponent)) (number (drop 1 s.exponent))) (number_front text s)
    ∙ ap (λ (n : ℕ). scaled (number_of s) n (begins_with_minus (drop 1 s.exponent)) (number (drop 1 s.exponent))) (places_front text s)
    ∙ scaled_exponent (number_of s) (places_of s) s.exponent s.is_exponent

-- behind the sign stands a digit or a point
minus_first : (sign whole fraction rest : List ℕ) → IsSign sign → AreDigits whole → IsFraction fraction → 0 < length whole + length fraction → begins_with_minus (sign ++ (whole ++ (fraction ++ rest))) ≡ is_minus sign
minus_first sign (d ∷ ds) fraction rest s h f some = sign_first sign d (ds ++ (fraction ++ rest)) s (digit_passes d h.0).2
minus_first sign [] (c ∷ cs) rest s h f some = sign_first sign c (cs ++ rest) s (point_passes c f.0).2
minus_first sign [] [] rest s h f some = absurd (omega arith)

pub minus_spelled : (text : List ℕ) (s : IsSpelling text) → begins_with_minus text ≡ is_minus s.sign
minus_spelled text s =
    ap begins_with_minus s.parts ∙ minus_first s.sign s.whole s.fraction s.exponent s.is_sign s.are_digits s.is_fraction
    (elim s.some_digit [ inl a ↦ omega arith | inr a ↦ omega arith ])

pub value_spelled : (text : List ℕ) (s : IsSpelling text) → value_in text ≡ value_of s
value_spelled text s = ap (λ (b : Bool). cond b (neg_ℤ (pos (magnitude_in text))) (pos (magnitude_in text))) (minus_spelled text s) ∙ ap (signed s.sign) (magnitude_spelled text s)
