-- Laws of the digits of a number.
use Rattle.std.proofs.Common.{◌≡◌, ℕ, zero, suc, ◌+◌, ◌-◌, ◌*◌, ◌/◌, ◌^◌, ◌<◌, ◌≤◌, min, Bool, true, false, cond, List, [], ◌∷◌, ◌++◌, length, take, drop, get_or, Option, Some, None, refl, sym, ap, subst, ◌∙◌, arith, inl, inr}
use Rattle.std.specs.List.{position_or_len}
use Rattle.std.proofs.lemmas.List.Sums.{length-filter, count_by-le-length}
use Rattle.fb_decimal.specs.Spelling.{is_point}
use Rattle.std.specs.Char.{is_ascii_digit, digit_value}
use Rattle.std.specs.Str.Parse.{digits_value, digits_value_after, AllDigits}
use Rattle.std.proofs.lemmas.Bool.{cases_lt}
use Rattle.std.proofs.lemmas.Bool.Decides.{nat_tests}
use Rattle.std.proofs.lemmas.List.{take-append-drop, length-append, length-drop, append-nil, take_all, take-append-le}
use Rattle.std.proofs.lemmas.List.Elements.{filter_more, filter-append}
use Rattle.std.proofs.lemmas.Int.Digits.{digits_value-lt, digits_value_push}
use Rattle.std.proofs.lemmas.Nat.{div-mul-add, pow-add}
use Rattle.std.proofs.Math.Nat.{pow-le-pow_right, mul-div_cancel, div-div-eq-div-mul, one-le-pow, mul_assoc, add-mul, mul-le-mul_left, mul-le-mul_right, zero-div}
use Rattle.fb_decimal.specs.Pieces.{digits, number, scaled, from_front, IsCapped, kept_digits, magnitude_in, mantissa, exponent, places, begins_with_minus}

-- a digit stands for a number below ten
pub digit_is : (c : ℕ) → is_ascii_digit c ≡ true → (digit_value c ≡ c - 48) × (digit_value c < 10) × (48 ≤ c) × (c ≤ 57)
digit_is c e = grind (arith, nat_tests)

AllDigits-grown : (c : ℕ) (ds : List ℕ) (b : Bool) → is_ascii_digit c ≡ b → AllDigits 10 ds → AllDigits 10 (cond b (c ∷ ds) ds)
AllDigits-grown c ds true e h = ((digit_is c e).1, h)
AllDigits-grown c ds false e h = h

pub AllDigits-digits : (text : List ℕ) → AllDigits 10 (digits text)
AllDigits-digits [] = tt
AllDigits-digits (c ∷ cs) = AllDigits-grown c (digits cs) (is_ascii_digit c) refl (AllDigits-digits cs)

AllDigits-take : (n : ℕ) (ds : List ℕ) → AllDigits 10 ds → AllDigits 10 (take n ds)
AllDigits-take zero ds h = tt
AllDigits-take (suc n) [] h = tt
AllDigits-take (suc n) (d ∷ ds) h = (h.0, AllDigits-take n ds h.1)

AllDigits-drop : (n : ℕ) (ds : List ℕ) → AllDigits 10 ds → AllDigits 10 (drop n ds)
AllDigits-drop zero ds h = h
AllDigits-drop (suc n) [] h = tt
AllDigits-drop (suc n) (d ∷ ds) h = AllDigits-drop n ds h.1

after_step : (n d p q v a b : ℕ) → q ≡ 10 ^ 1 * p → a ≡ (n * 10 + d) * p + v → b ≡ (0 * 10 + d) * p + v → a ≡ n * q + b
after_step n d p q v a b hq ha hb =
    let wide : n * q ≡ n * 10 * p = ap (λ (x : ℕ). n * x) hq ∙ sym (mul_assoc n 10 p) in
    let parts : (n * 10 + d) * p ≡ n * 10 * p + d * p = add-mul (n * 10) d p in
    let small : (0 * 10 + d) * p ≡ d * p = ap (λ (x : ℕ). x * p) (omega arith) in
    omega (arith, wide, parts, small, ha, hb)

after_is : (n : ℕ) (ds : List ℕ) → digits_value_after 10 n ds ≡ n * 10 ^ length ds + digits_value 10 ds
after_is n [] = omega arith
after_is n (d ∷ ds) =
    after_step n (digit_value d) (10 ^ length ds) (10 ^ suc (length ds)) (digits_value 10 ds) (digits_value_after 10 (n * 10 + digit_value d) ds) (digits_value_after 10 (0 * 10 + digit_value d) ds)
    (ap (λ (k : ℕ). 10 ^ k) (omega arith) ∙ pow-add 10 1 (length ds)) (after_is (n * 10 + digit_value d) ds) (after_is (0 * 10 + digit_value d) ds)

pub digits_value-append : (xs ys : List ℕ) → digits_value 10 (xs ++ ys) ≡ digits_value 10 xs * 10 ^ length ys + digits_value 10 ys
digits_value-append xs ys = go 0 xs
  where
    go : (n : ℕ) (xs : List ℕ) → digits_value_after 10 n (xs ++ ys) ≡ digits_value_after 10 n xs * 10 ^ length ys + digits_value 10 ys
    go n [] = after_is n ys
    go n (x ∷ xs) = go (n * 10 + digit_value x) xs

pow10_pos : (k : ℕ) → 0 < 10 ^ k
pow10_pos k = one-le-pow k 10 (omega arith)

-- the digits without the last k
pub digits_value-div : (ds : List ℕ) (k : ℕ) → AllDigits 10 ds → digits_value 10 ds / 10 ^ k ≡ digits_value 10 (take (length ds - k) ds)
digits_value-div ds k h =
    elim (cases_lt (length ds) k) [
      | inl lt ↦
          let small : digits_value 10 ds < 10 ^ k = omega (arith, digits_value-lt 10 ds h, pow-le-pow_right {n = 10} (omega arith) {i = length ds} {j = k} (omega arith)) in
          let none : length ds - k ≡ 0 = omega arith in
          rw none (sym (ap (λ x. x / 10 ^ k) (omega arith)) ∙ div-mul-add 0 (10 ^ k) (digits_value 10 ds) small)
      | inr le ↦
          let front = take (length ds - k) ds in
          let back = drop (length ds - k) ds in
          let long : length back ≡ k = omega (arith, length-drop (length ds - k) ds) in
          let whole : digits_value 10 ds ≡ digits_value 10 front * 10 ^ k + digits_value 10 back =
          ap (digits_value 10) (sym (take-append-drop (length ds - k) ds)) ∙ digits_value-append front back ∙ ap (λ n. digits_value 10 front * 10 ^ n + digits_value 10 back) long in
          let below : digits_value 10 back < 10 ^ k = subst (λ n. digits_value 10 back < 10 ^ n) long (digits_value-lt 10 back (AllDigits-drop (length ds - k) ds h)) in
          ap (λ n. n / 10 ^ k) whole ∙ div-mul-add (digits_value 10 front) (10 ^ k) (digits_value 10 back) below
    ]

-- n times ten to a, by ten to b
pow_quotient_up : (n a b : ℕ) → b ≤ a → n * 10 ^ a / 10 ^ b ≡ n * 10 ^ (a - b)
pow_quotient_up n a b le =
    let e : 10 ^ a ≡ 10 ^ (a - b) * 10 ^ b = ap (λ k. 10 ^ k) (omega arith) ∙ pow-add 10 (a - b) b in
    ap (λ p. n * p / 10 ^ b) e ∙ ap (λ p. p / 10 ^ b) (sym (mul_assoc n (10 ^ (a - b)) (10 ^ b))) ∙ mul-div_cancel (n * 10 ^ (a - b)) (pow10_pos b)

pow_quotient_down : (n a b : ℕ) → a ≤ b → n * 10 ^ a / 10 ^ b ≡ n / 10 ^ (b - a)
pow_quotient_down n a b le =
    let e : 10 ^ b ≡ 10 ^ a * 10 ^ (b - a) = ap (λ k. 10 ^ k) (omega arith) ∙ pow-add 10 a (b - a) in
    ap (λ p. n * 10 ^ a / p) e ∙ sym (div-div-eq-div-mul (n * 10 ^ a) (10 ^ a) (10 ^ (b - a))) ∙ ap (λ p. p / 10 ^ (b - a)) (mul-div_cancel n (pow10_pos a))

pub quotient_is : (ds : List ℕ) (a b : ℕ) → AllDigits 10 ds → digits_value 10 ds * 10 ^ a / 10 ^ b ≡ from_front ds (length ds + a - b)
quotient_is ds a b h =
    elim (cases_lt a b) [
      | inl lt ↦
          let k : length ds + a - b ≡ length ds - (b - a) = omega arith in
          let none : length ds + a - b - length ds ≡ 0 = omega arith in
          pow_quotient_down (digits_value 10 ds) a b (omega arith) ∙ digits_value-div ds (b - a) h
          ∙ ap (λ n. digits_value 10 (take n ds)) (sym k) ∙ sym (ap (λ n. digits_value 10 (take (length ds + a - b) ds) * 10 ^ n) none ∙ omega arith)
      | inr le ↦
          let k : length ds + a - b - length ds ≡ a - b = omega arith in
          let all : take (length ds + a - b) ds ≡ ds = take_all (length ds + a - b) ds (omega arith) in
          pow_quotient_up (digits_value 10 ds) a b le ∙ sym (ap (λ (xs : List ℕ). digits_value 10 xs * 10 ^ (length ds + a - b - length ds)) all ∙ ap (λ n. digits_value 10 ds * 10 ^ n) k)
    ]

-- what is computed with another power is the same up to the limit
pub record Agrees (limit computed exact : ℕ) : Type 0 where
  pub same : computed ≤ limit → exact ≡ computed
  pub past : limit < computed → limit < exact

Agrees-refl : (limit x y : ℕ) → y ≡ x → Agrees limit x y
Agrees-refl limit x y e = record { same = λ _. e; past = λ h. subst (λ n. limit < n) (sym e) h }

-- a power that is past every exponent that matters
pub up_agrees : (limit digits places power top : ℕ) → limit < 10 ^ 31 → places + 31 ≤ top → top ≤ power → Agrees limit (digits * 10 ^ (6 + top) / 10 ^ places) (digits * 10 ^ (6 + power) / 10 ^ places)
up_agrees limit zero places power top small far le = Agrees-refl limit _ _ (grind (arith, zero-div))
up_agrees limit (suc d) places power top small far le =
    let big : (k : ℕ) → top ≤ k → limit < suc d * 10 ^ (6 + k) / 10 ^ places =
    λ k lk.
    let e = pow_quotient_up (suc d) (6 + k) places (omega arith) in
    let p : 10 ^ 31 ≤ 10 ^ (6 + k - places) = pow-le-pow_right {n = 10} (omega arith) {i = 31} {j = 6 + k - places} (omega arith) in
    let m : 1 * 10 ^ (6 + k - places) ≤ suc d * 10 ^ (6 + k - places) = mul-le-mul_right (10 ^ (6 + k - places)) (omega arith) in
    omega (arith, e, p, m, small) in
    record { same = λ h. absurd (omega (arith, h, big top (omega arith))); past = λ _. big power le }

pub down_agrees : (limit : ℕ) (ds : List ℕ) (places power top : ℕ) → AllDigits 10 ds → length ds + 6 ≤ top → top ≤ power → Agrees limit (digits_value 10 ds * 10 ^ 6 / 10 ^ (places + top)) (digits_value 10 ds * 10 ^ 6 / 10 ^ (places + power))
down_agrees limit ds places power top h far le =
    let nothing : (k : ℕ) → top ≤ k → digits_value 10 ds * 10 ^ 6 / 10 ^ (places + k) ≡ 0 =
    λ k lk. quotient_is ds 6 (places + k) h ∙ none_kept (length ds + 6 - (places + k)) (omega arith) in
    Agrees-refl limit _ _ (nothing power le ∙ sym (nothing top (omega arith)))
  where
    none_kept : (k : ℕ) → k ≡ 0 → from_front ds k ≡ 0
    none_kept k e = rw e (omega arith)

-- ---- going over a text

pub digits_more_yes : (text : List ℕ) (i : ℕ) → i < length text → is_ascii_digit (get_or text i 0) ≡ true → digits (take (i + 1) text) ≡ digits (take i text) ++ get_or text i 0 ∷ []
digits_more_yes text i lt e = filter_more is_ascii_digit text i 0 lt ∙ ap (λ (b : Bool). digits (take i text) ++ cond b (get_or text i 0 ∷ []) []) e

pub digits_more_no : (text : List ℕ) (i : ℕ) → i < length text → is_ascii_digit (get_or text i 0) ≡ false → digits (take (i + 1) text) ≡ digits (take i text)
digits_more_no text i lt e = filter_more is_ascii_digit text i 0 lt ∙ ap (λ (b : Bool). digits (take i text) ++ cond b (get_or text i 0 ∷ []) []) e ∙ append-nil (digits (take i text))

pub number_more_yes : (text : List ℕ) (i : ℕ) → i < length text → is_ascii_digit (get_or text i 0) ≡ true → number (take (i + 1) text) ≡ number (take i text) * 10 + (get_or text i 0 - 48)
number_more_yes text i lt e = ap (digits_value 10) (digits_more_yes text i lt e) ∙ digits_value_push 10 (digits (take i text)) (get_or text i 0) ∙ ap (λ d. number (take i text) * 10 + d) (digit_is (get_or text i 0) e).0

abbrev pub lead : ℕ → List ℕ → ℕ
lead kept ds = digits_value 10 (take kept ds)

take-push : (kept : ℕ) (ds : List ℕ) (d : ℕ) → length ds < kept → take kept (ds ++ d ∷ []) ≡ ds ++ d ∷ []
take-push kept ds d lt = take_all kept (ds ++ d ∷ []) (omega (arith, length-append ds (d ∷ [])))

lead_push : (kept : ℕ) (ds : List ℕ) (c : ℕ) → length ds < kept → is_ascii_digit c ≡ true → lead kept (ds ++ c ∷ []) ≡ lead kept ds * 10 + (c - 48)
lead_push kept ds c lt e =
    ap (digits_value 10) (take-push kept ds c lt) ∙ digits_value_push 10 ds c
    ∙ ap (λ d. digits_value 10 ds * 10 + d) (digit_is c e).0 ∙ ap (λ (xs : List ℕ). digits_value 10 xs * 10 + (c - 48)) (sym (take_all kept ds (omega arith)))

-- one more character
pub record Step (kept total left : ℕ) (ds : List ℕ) : Type 0 where
  pub is_lead : total ≡ lead kept ds
  pub is_left : left ≡ kept - length ds

pub lead_more_yes : (kept total left : ℕ) (text : List ℕ) (i : ℕ) → i < length text → is_ascii_digit (get_or text i 0) ≡ true → 0 < left → Step kept total left (digits (take i text)) → Step kept (total * 10 + (get_or text i 0 - 48)) (left - 1) (digits (take (i + 1) text))
lead_more_yes kept total left text i lt e some s =
    let ds = digits (take i text) in
    let room : length ds < kept = omega (arith, s.is_left) in
    subst (λ (xs : List ℕ). Step kept (total * 10 + (get_or text i 0 - 48)) (left - 1) xs) (sym (digits_more_yes text i lt e)) (record {
      is_lead = ap (λ n. n * 10 + (get_or text i 0 - 48)) s.is_lead ∙ sym (lead_push kept ds (get_or text i 0) room e);
      is_left = omega (arith, s.is_left, length-append ds (get_or text i 0 ∷ []));
    })

pub lead_more_full : (kept total left : ℕ) (text : List ℕ) (i : ℕ) → i < length text → is_ascii_digit (get_or text i 0) ≡ true → left ≤ 0 → Step kept total left (digits (take i text)) → Step kept total left (digits (take (i + 1) text))
lead_more_full kept total left text i lt e full s =
    let ds = digits (take i text) in
    let c = get_or text i 0 in
    let room : kept ≤ length ds = omega (arith, s.is_left) in
    subst (λ (xs : List ℕ). Step kept total left xs) (sym (digits_more_yes text i lt e)) (record {
      is_lead = s.is_lead ∙ ap (digits_value 10) (sym (take-append-le kept ds (c ∷ []) room));
      is_left = omega (arith, s.is_left, length-append ds (c ∷ []));
    })

pub lead_more_no : (kept total left : ℕ) (text : List ℕ) (i : ℕ) → i < length text → is_ascii_digit (get_or text i 0) ≡ false → Step kept total left (digits (take i text)) → Step kept total left (digits (take (i + 1) text))
lead_more_no kept total left text i lt e s = subst (λ (xs : List ℕ). Step kept total left xs) (sym (digits_more_no text i lt e)) s

take-append : (n : ℕ) (xs ys : List ℕ) → take n (xs ++ ys) ≡ take n xs ++ take (n - length xs) ys
take-append zero xs ys = let e : 0 - length xs ≡ 0 = omega arith in rw e refl
take-append (suc n) [] ys = let e : suc n - 0 ≡ suc n = omega arith in rw e refl
take-append (suc n) (x ∷ xs) ys = let e : suc n - suc (length xs) ≡ n - length xs = omega arith in rw e (ap (λ (zs : List ℕ). x ∷ zs) (take-append n xs ys))

lead-append-le : (kept : ℕ) (xs ys : List ℕ) → lead kept xs ≤ lead kept (xs ++ ys)
lead-append-le kept xs ys =
    let back = take (kept - length xs) ys in
    let e = ap (digits_value 10) (take-append kept xs ys) ∙ digits_value-append (take kept xs) back in
    let m : lead kept xs * 1 ≤ lead kept xs * 10 ^ length back = mul-le-mul_left (lead kept xs) (pow10_pos (length back)) in
    omega (arith, e, m)

-- a front has no larger number
pub lead_le : (kept : ℕ) (text : List ℕ) (n : ℕ) → lead kept (digits (take n text)) ≤ lead kept (digits text)
lead_le kept text n =
    let e : digits text ≡ digits (take n text) ++ digits (drop n text) = ap digits (sym (take-append-drop n text)) ∙ filter-append is_ascii_digit (take n text) (drop n text) in
    subst (λ (xs : List ℕ). lead kept (digits (take n text)) ≤ lead kept xs) (sym e) (lead-append-le kept (digits (take n text)) (digits (drop n text)))

-- ---- zeros

pub times_ten : (n k : ℕ) → n * 10 ^ k * 10 ≡ n * 10 ^ (k + 1)
times_ten n k = mul_assoc n (10 ^ k) 10 ∙ ap (λ p. n * p) (sym (pow-add 10 k 1))

pub zeros_grow : (n j k : ℕ) → j ≤ k → n * 10 ^ j ≤ n * 10 ^ k
zeros_grow n j k le = mul-le-mul_left n (pow-le-pow_right {n = 10} (omega arith) {i = j} {j = k} le)

pub many_zeros : (n zeros : ℕ) → (n ≡ 0 → ⊥) → 30 < zeros → 10 ^ 30 < n * 10 ^ zeros
many_zeros n zeros some lt =
    let p : n * 10 ^ 31 ≤ n * 10 ^ zeros = zeros_grow n 31 zeros (omega arith) in
    let some' : 0 < n = omega (arith, some) in
    omega (arith, p)

-- ---- the whole value

pub IsCapped-agrees : (limit computed exact : ℕ) (r : Option ℕ) → Agrees limit computed exact → IsCapped limit computed r → IsCapped limit exact r
IsCapped-agrees limit computed exact None a h = a.past h
IsCapped-agrees limit computed exact (Some v) a h = (h.0 ∙ sym (a.same (subst (λ n. n ≤ limit) h.0 h.1)), h.1)

-- behind a number that is past the limit the zeros change nothing
pub past_front : (limit : ℕ) (ds : List ℕ) (kept : ℕ) → limit < digits_value 10 (take kept ds) → limit < from_front ds kept
past_front limit ds kept h = omega (arith, h, zeros_grow (digits_value 10 (take kept ds)) 0 (kept - length ds) (omega arith))

-- the power may be cut off at 2^64 - 1
pub value_agrees : (ds : List ℕ) (places : ℕ) (negative : Bool) (power : ℕ) → AllDigits 10 ds → places ≤ length ds → length ds < 2 ^ 63
    → Agrees (10 ^ 30) (from_front ds (kept_digits (length ds) places negative (min power (2 ^ 64 - 1)))) (scaled (digits_value 10 ds) places negative power)
value_agrees ds places negative power h fits short =
    elim (cases_lt (2 ^ 64 - 1) power) [
      | inl lt ↦ subst (λ p. Agrees (10 ^ 30) (from_front ds (kept_digits (length ds) places negative p)) (scaled (digits_value 10 ds) places negative power)) (sym (cut lt)) (cut_off lt negative)
      | inr le ↦ subst (λ p. Agrees (10 ^ 30) (from_front ds (kept_digits (length ds) places negative p)) (scaled (digits_value 10 ds) places negative power)) (sym (whole le)) (same negative)
    ]
  where
    cut : 2 ^ 64 - 1 < power → min power (2 ^ 64 - 1) ≡ 2 ^ 64 - 1
    cut lt = omega arith

    whole : power ≤ 2 ^ 64 - 1 → min power (2 ^ 64 - 1) ≡ power
    whole le = omega arith

    same : (b : Bool) → Agrees (10 ^ 30) (from_front ds (kept_digits (length ds) places b power)) (scaled (digits_value 10 ds) places b power)
    same true = Agrees-refl (10 ^ 30) _ _ (quotient_is ds 6 (places + power) h)
    same false = Agrees-refl (10 ^ 30) _ _ (quotient_is ds (6 + power) places h ∙ ap (λ k. from_front ds (k - places)) (omega arith))

    cut_off : 2 ^ 64 - 1 < power → (b : Bool) → Agrees (10 ^ 30) (from_front ds (kept_digits (length ds) places b (2 ^ 64 - 1))) (scaled (digits_value 10 ds) places b power)
    cut_off lt true = subst (λ n. Agrees (10 ^ 30) n (scaled (digits_value 10 ds) places true power)) (quotient_is ds 6 (places + (2 ^ 64 - 1)) h) (down_agrees (10 ^ 30) ds places power (2 ^ 64 - 1) h (omega arith) (omega arith))
    cut_off lt false = subst (λ n. Agrees (10 ^ 30) n (scaled (digits_value 10 ds) places false power)) (quotient_is ds (6 + (2 ^ 64 - 1)) places h ∙ ap (λ k. from_front ds (k - places)) (omega arith)) (up_agrees (10 ^ 30) (digits_value 10 ds) places power (2 ^ 64 - 1) (omega arith) (omega arith) (omega arith))

-- an exponent's place behind its point and digits: no more digits stand behind the point than there are
pub places-le : (text : List ℕ) → places text ≤ length (digits text)
places-le text =
    let n = position_or_len is_point text + 1 in
    let e : digits text ≡ digits (take n text) ++ digits (drop n text) = ap digits (sym (take-append-drop n text)) ∙ filter-append is_ascii_digit (take n text) (drop n text) in
    omega (arith, ap length e, length-append (digits (take n text)) (digits (drop n text)))

pub digits-le : (text : List ℕ) → length (digits text) ≤ length text
digits-le text = omega (arith, length-filter is_ascii_digit text, count_by-le-length is_ascii_digit text)

pub magnitude_is : (text front back : List ℕ) (r : Option ℕ) → front ≡ mantissa text → back ≡ exponent text → length front < 2 ^ 63
    → IsCapped (10 ^ 30) (from_front (digits front) (kept_digits (length (digits front)) (places front) (begins_with_minus back) (min (number back) (2 ^ 64 - 1)))) r
    → IsCapped (10 ^ 30) (magnitude_in text) r
unfolding magnitude_in
magnitude_is text front back r ef eb short h =
    let a = value_agrees (digits front) (places front) (begins_with_minus back) (number back) (AllDigits-digits front) (places-le front) (omega (arith, digits-le front)) in
    let same : scaled (number front) (places front) (begins_with_minus back) (number back) ≡ scaled (number (mantissa text)) (places (mantissa text)) (begins_with_minus (exponent text)) (number (exponent text)) =
    ap (λ (x : List ℕ). scaled (number x) (places x) (begins_with_minus back) (number back)) ef ∙ ap (λ (x : List ℕ). scaled (number (mantissa text)) (places (mantissa text)) (begins_with_minus x) (number x)) eb in
    subst (λ (n : ℕ). IsCapped (10 ^ 30) n r) same (IsCapped-agrees (10 ^ 30) _ _ r a h)
