-- The text of a citation, in parts.
use Rattle.std.proofs.Common.{◌≡◌, ℕ, ◌<◌, ◌^◌, false, List, [], ◌∷◌, ◌++◌, map, refl, sym, ap, ◌∙◌, arith, append-nil}
use Rattle.std.specs.Prelude.{◌==◌}
use Rattle.std.specs.Fmt.{decimal, signed_decimal}
use Rattle.std.specs.List.{flat_map, join_with_byte}
use Rattle.std.proofs.lemmas.Bool.Decides.{nat_tests}
use Rattle.std.proofs.lemmas.List.Elements.{All-head, All-tail, All-cons, All-append}
use Rattle.std.proofs.lemmas.List.Splits.{slice_split_none, slice_split_at}
use Rattle.fb_types.specs.declared.rows.Mult.{Mult}
use Rattle.fb_types.specs.declared.rows.Multipliers.{Multipliers}
use Rattle.number_lists.specs.ListLaws.{IsNoDigit, decimal_is_word, number_is_word, blank_is_no_digit, items_same}
use Rattle.number_lists.specs.WordLaws.{joined, word_same}
use Rattle.number_lists.specs.Words.{parts_of, IsWord}
use Rattle.whole_numbers.specs.SpelledLaws.{decimal_same, signed_same}
use Rattle.domain_report.specs.DomainTexts.{citation_text, multiplier_text}
use Rattle.certificate_reader.specs.Spellings.{IsGoodMult, AreGoodMults, IsGoodBy, mult_word}

pub colon_is_no_digit : IsNoDigit 58
colon_is_no_digit c l h = grind (arith, nat_tests)

pub row_is_word : (n : ℕ) → n < 2 ^ 32 → IsWord 58 (decimal n)
row_is_word n l = decimal_is_word 58 colon_is_no_digit n (omega (arith, l))

mult_is_word : (m : Mult) → IsGoodMult m → IsWord 32 (mult_word m)
mult_is_word m g =
    All-append (λ b. (b == 32) ≡ false) (decimal m.row) (58 ∷ signed_decimal m.value)
    (decimal_is_word 32 blank_is_no_digit m.row (omega (arith, g.row)))
    (All-cons (λ b. (b == 32) ≡ false) 58 (signed_decimal m.value) refl (number_is_word m.value g.value))

-- the parts of a word and multipliers
parts_behind : (w : List ℕ) (ms : List Mult) → IsWord 32 w → AreGoodMults ms → parts_of 32 (w ++ flat_map multiplier_text ms) ≡ w ∷ map mult_word ms
parts_behind w [] h g = ap (parts_of 32) (append-nil w) ∙ slice_split_none (λ b. b == 32) w h
parts_behind w (m ∷ ms) h g =
    slice_split_at (λ b. b == 32) w 32 (mult_word m ++ flat_map multiplier_text ms) h refl
    ∙ ap (λ t. w ∷ t) (parts_behind (mult_word m) ms (mult_is_word m (All-head IsGoodMult m ms g)) (All-tail IsGoodMult m ms g))

pub citation_parts : (by : Multipliers) → IsGoodBy by → parts_of 32 (citation_text by) ≡ signed_decimal by.mu ∷ map mult_word by.mults
citation_parts by g = parts_behind (signed_decimal by.mu) by.mults (number_is_word by.mu g.mu) g.mults

joined_behind : (w : List ℕ) (ms : List Mult) → join_with_byte 32 (w ∷ map mult_word ms) ≡ w ++ flat_map multiplier_text ms
joined_behind w [] = sym (append-nil w)
joined_behind w (m ∷ ms) = ap (λ t. w ++ 32 ∷ t) (joined_behind (mult_word m) ms)

-- a text with these parts is the citation
pub citation_is : (text : List ℕ) (by : Multipliers) → parts_of 32 text ≡ signed_decimal by.mu ∷ map mult_word by.mults → text ≡ citation_text by
citation_is text by e = joined 32 text (signed_decimal by.mu ∷ map mult_word by.mults) e ∙ joined_behind (signed_decimal by.mu) by.mults

-- ---- one text, one citation

pub mult_same : (m n : Mult) → IsGoodMult m → IsGoodMult n → mult_word m ≡ mult_word n → m ≡ n
mult_same m n g h e =
    let s = word_same 58 (decimal m.row) (decimal n.row) (signed_decimal m.value) (signed_decimal n.value) (row_is_word m.row g.row) (row_is_word n.row h.row) e in
    let row = decimal_same m.row n.row (omega (arith, g.row)) (omega (arith, h.row)) s.0 in
    let value = signed_same m.value n.value g.value h.value s.1 in
    λ i. record { row = row i; value = value i }

pub head_same : (x y : List ℕ) (xs ys : List (List ℕ)) → (x ∷ xs) ≡ (y ∷ ys) → x ≡ y
head_same x y xs ys e = cc

pub tail_same : (x y : List ℕ) (xs ys : List (List ℕ)) → (x ∷ xs) ≡ (y ∷ ys) → xs ≡ ys
tail_same x y xs ys e = cc

pub citation_same : (x y : Multipliers) → IsGoodBy x → IsGoodBy y → citation_text x ≡ citation_text y → x ≡ y
citation_same x y g h e =
    let parts = sym (citation_parts x g) ∙ ap (parts_of 32) e ∙ citation_parts y h in
    let mu = signed_same x.mu y.mu g.mu h.mu (head_same _ _ _ _ parts) in
    let mults = items_same mult_word IsGoodMult mult_same x.mults y.mults g.mults h.mults (tail_same _ _ _ _ parts) in
    λ i. record { mu = mu i; mults = mults i }
