-- Laws of lists of texts with marks between them, which are proved: nobody need believe them.
use Rattle.std.proofs.Common.{◌≡◌, ◌≢◌, ℕ, suc, ◌^◌, ◌<◌, ◌≤◌, ℤ, pos, negsuc, true, false, List, [], ◌∷◌, ◌++◌, map, length, refl, sym, ap, ◌∙◌, arith, FitsSigned}
use Rattle.std.specs.Prelude.{◌==◌}
use Rattle.std.specs.Fmt.{decimal, signed_decimal}
use Rattle.std.specs.Int.{w128}
use Rattle.std.specs.List.{All, join_with_byte}
use Rattle.std.specs.Str.Parse.{AllDigits}
use Rattle.std.proofs.lemmas.Bool.Decides.{nat_tests}
use Rattle.std.proofs.lemmas.Str.Parse.{digit_from_value}
use Rattle.std.proofs.lemmas.Fmt.{decimal_is_IsNumeral_wide}
use Rattle.std.proofs.lemmas.List.Elements.{All-head, All-tail, All-cons, All-nil}
use Rattle.std.proofs.lemmas.List.{length-map}
use Rattle.std.proofs.lemmas.List.Splits.{slice_split_none, slice_split_at, length-slice_split}
use Rattle.whole_laws.specs.Sums.{IsWithin}
use Rattle.whole_numbers.specs.SpelledLaws.{signed_same, fits_within}
use Rattle.number_lists.specs.Lists.{AreNumbers, AreWithin, numbers_text}
use Rattle.number_lists.specs.Words.{parts_of, IsWord}
use Rattle.number_lists.specs.WordLaws.{joined}

-- ---- numbers are words

-- a mark that is no digit
abbrev pub IsNoDigit : ℕ → Type 0
IsNoDigit mark = (c : ℕ) → 48 ≤ c → c ≤ 57 → (c == mark) ≡ false

digits_are_word : (mark : ℕ) → IsNoDigit mark → (ds : List ℕ) → AllDigits 10 ds → IsWord mark ds
digits_are_word mark free [] d = All-nil (λ b. (b == mark) ≡ false)
digits_are_word mark free (c ∷ cs) d =
    let k = digit_from_value c d.0 in
    All-cons (λ b. (b == mark) ≡ false) c cs (free c (omega (arith, k)) (omega (arith, k))) (digits_are_word mark free cs d.1)

pub decimal_is_word : (mark : ℕ) → IsNoDigit mark → (n : ℕ) → n < 10 ^ 64 → IsWord mark (decimal n)
decimal_is_word mark free n l = digits_are_word mark free (decimal n) (decimal_is_IsNumeral_wide n l).0.1

pub blank_is_no_digit : IsNoDigit 32
blank_is_no_digit c l h = grind (arith, nat_tests)

-- the text of a number has no blank
pub number_is_word : (z : ℤ) → FitsSigned w128 z → IsWord 32 (signed_decimal z)
number_is_word (pos n) fits = decimal_is_word 32 blank_is_no_digit n (omega (arith, fits.sfits))
number_is_word (negsuc n) fits =
    All-cons (λ b. (b == 32) ≡ false) 45 (decimal (suc n)) refl (decimal_is_word 32 blank_is_no_digit (suc n) (omega (arith, fits.sfits)))

-- ---- lists of any items

-- the parts of a joined list
pub split_joined : {X : Type 0} (mark : ℕ) (text : X → List ℕ) (IsGood : X → Type 0) → ((x : X) → IsGood x → IsWord mark (text x)) → (xs : List X) → 0 < length xs → All IsGood xs → (mark == mark) ≡ true → parts_of mark (join_with_byte mark (map text xs)) ≡ map text xs
split_joined mark text IsGood free [] some h e = absurd (omega arith)
split_joined mark text IsGood free (x ∷ []) some h e = slice_split_none (λ b. b == mark) (text x) (free x (All-head IsGood x [] h))
split_joined mark text IsGood free (x ∷ y ∷ ys) some h e =
    slice_split_at (λ b. b == mark) (text x) mark (join_with_byte mark (map text (y ∷ ys))) (free x (All-head IsGood x (y ∷ ys) h)) e
    ∙ ap (λ t. text x ∷ t) (split_joined mark text IsGood free (y ∷ ys) (omega arith) (All-tail IsGood x (y ∷ ys) h) e)

-- a part that no good item has stands in no list of items
pub unlisted : {X : Type 0} (text : X → List ℕ) (IsGood : X → Type 0) (read xs : List X) (p : List ℕ) (more : List (List ℕ)) → map text xs ≡ map text read ++ p ∷ more → All IsGood xs → ((x : X) → IsGood x → p ≢ text x) → ⊥
unlisted text IsGood [] [] p more e h un = cc
unlisted text IsGood [] (x ∷ xs) p more e h un = let first : p ≡ text x = cc in un x (All-head IsGood x xs h) first
unlisted text IsGood (r ∷ read) [] p more e h un = cc
unlisted text IsGood (r ∷ read) (x ∷ xs) p more e h un =
    let rest : map text xs ≡ map text read ++ p ∷ more = cc in
    unlisted text IsGood read xs p more rest (All-tail IsGood x xs h) un

head_same : {X : Type 0} (x y : X) (xs ys : List X) → x ∷ xs ≡ y ∷ ys → x ≡ y
head_same x y xs ys e = cc

tail_same : {X : Type 0} (x y : X) (xs ys : List X) → x ∷ xs ≡ y ∷ ys → xs ≡ ys
tail_same x y xs ys e = cc

-- the same texts are those of the same items
pub items_same : {X T : Type 0} (text : X → T) (IsGood : X → Type 0) → ((x y : X) → IsGood x → IsGood y → text x ≡ text y → x ≡ y) → (xs ys : List X) → All IsGood xs → All IsGood ys → map text xs ≡ map text ys → xs ≡ ys
items_same text IsGood same [] [] h k e = refl
items_same text IsGood same [] (y ∷ ys) h k e = cc
items_same text IsGood same (x ∷ xs) [] h k e = cc
items_same text IsGood same (x ∷ xs) (y ∷ ys) h k e =
    let first = same x y (All-head IsGood x xs h) (All-head IsGood y ys k) (head_same (text x) (text y) (map text xs) (map text ys) e) in
    let rest = items_same text IsGood same xs ys (All-tail IsGood x xs h) (All-tail IsGood y ys k) (tail_same (text x) (text y) (map text xs) (map text ys) e) in
    λ i. first i ∷ rest i

-- ---- lists of numbers

parts_long : (bs : List ℕ) (xs : List ℤ) → parts_of 32 bs ≡ map signed_decimal xs → 0 < length xs
parts_long bs xs e =
    let n = length-slice_split (λ b. b == 32) bs in
    let m = length-map xs signed_decimal in
    let k = ap length e in
    omega arith

pub read_numbers : (bs : List ℕ) (xs : List ℤ) → parts_of 32 bs ≡ map signed_decimal xs → All (FitsSigned w128) xs → AreNumbers xs × (bs ≡ numbers_text xs)
read_numbers bs xs e h = (record { some = parts_long bs xs e; fit = h }, joined 32 bs (map signed_decimal xs) e)

pub read_within : (most : ℕ) (bs : List ℕ) (xs : List ℤ) → parts_of 32 bs ≡ map signed_decimal xs → All (IsWithin most) xs → AreWithin most xs × (bs ≡ numbers_text xs)
read_within most bs xs e h = (record { some = parts_long bs xs e; small = h }, joined 32 bs (map signed_decimal xs) e)

pub numbers_parts : (xs : List ℤ) → AreNumbers xs → parts_of 32 (numbers_text xs) ≡ map signed_decimal xs
numbers_parts xs h = split_joined 32 signed_decimal (FitsSigned w128) number_is_word xs h.some h.fit refl

all_fit : (most : ℕ) (xs : List ℤ) → most < 2 ^ 63 → All (IsWithin most) xs → All (FitsSigned w128) xs
all_fit most xs l h k d j = fits_within most _ (h k d j) l

pub within_numbers : (most : ℕ) (xs : List ℤ) → most < 2 ^ 63 → AreWithin most xs → AreNumbers xs
within_numbers most xs l h = record { some = h.some; fit = all_fit most xs l h.small }

-- different lists have different texts
pub numbers_same : (xs ys : List ℤ) → AreNumbers xs → AreNumbers ys → numbers_text xs ≡ numbers_text ys → xs ≡ ys
numbers_same xs ys h k e =
    items_same signed_decimal (FitsSigned w128) signed_same xs ys h.fit k.fit (sym (numbers_parts xs h) ∙ ap (parts_of 32) e ∙ numbers_parts ys k)
